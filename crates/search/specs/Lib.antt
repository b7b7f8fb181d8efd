pub mod Checks
pub mod Cells
pub mod Search
pub mod Rows
pub mod Columns
pub mod Index
pub mod Memories
pub mod Owned
