pub mod Book
pub mod Jobs
pub mod Bounds
pub mod Gives
pub mod Replay
pub mod Texts
pub mod Covering
pub mod Scripts
