pub mod Refusals
pub mod Charges
pub mod Moneys
pub mod Grades
pub mod Sites
pub mod Problems
pub mod Runs
pub mod Queues
