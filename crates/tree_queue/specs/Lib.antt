pub mod Trees
pub mod Rows
pub mod Order
pub mod Queues
