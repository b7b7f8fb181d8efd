pub mod Growing
pub mod Stepping
pub mod Following
pub mod Fills
mod Pages
