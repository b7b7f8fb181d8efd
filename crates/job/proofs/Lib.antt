pub mod Shuts
pub mod Lists
pub mod Splits
pub mod Listing
