pub mod Fields
pub mod Records
pub mod Decode
pub mod InField
pub mod Entering
pub mod Encode
pub mod Pieces
