pub mod Counts
pub mod RowsLent
