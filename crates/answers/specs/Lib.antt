pub mod Desk
pub mod Rooms
pub mod Texts
pub mod Plans
pub mod Line
pub mod Price
