pub mod Columns
pub mod Fields
pub mod Filled
pub mod Lines
pub mod Names
pub mod Texts
pub mod Words
pub mod Written
