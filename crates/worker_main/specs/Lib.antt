pub mod Rings
pub mod Pushes
pub mod Slots
pub mod Visits
pub mod Works
