pub mod Escapes
pub mod Marks
pub mod Documents
pub mod Layers
