pub mod Inputs
pub mod Lines
pub mod Places
pub mod Runs
pub mod Steps
