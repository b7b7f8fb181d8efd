pub mod Counts
pub mod Figures
pub mod Plans
pub mod Used
