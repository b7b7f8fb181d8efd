pub mod Floor
pub mod Grids
pub mod Bounds
