pub mod Problem
pub mod Answers
pub mod MoneyJobs
