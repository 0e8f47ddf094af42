pub mod Order
pub mod Rule
pub mod Levels
pub mod Queues
