mod Shown
mod Plans
mod Printed
mod Steps
pub mod Causes
pub mod Replayed
pub mod Pages
pub mod Sheets
pub mod Files
pub mod Enough
