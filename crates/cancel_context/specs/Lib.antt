pub mod Forest
pub mod Order
pub mod Below
pub mod Flags
pub mod Whole
