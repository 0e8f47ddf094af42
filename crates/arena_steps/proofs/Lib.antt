pub mod Arriving
pub mod Births
pub mod Executing
pub mod Handing
pub mod Moving
pub mod Paying
pub mod Rooms
pub mod RunEnds
pub mod Takes
mod Idling
