pub mod Rings
pub mod Homes
pub mod Keeping
pub mod Starting
