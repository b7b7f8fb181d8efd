pub mod House
pub mod Cases
