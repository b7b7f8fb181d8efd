pub mod Lawful
pub mod Totals
pub mod Few
pub mod Prices
pub mod Solving
