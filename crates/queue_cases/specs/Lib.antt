pub mod Answers
pub mod Counts
pub mod Kinds
