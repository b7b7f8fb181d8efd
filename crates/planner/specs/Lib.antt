pub mod Outcome
pub mod Workspaces
