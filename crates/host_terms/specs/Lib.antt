pub mod Bookings
pub mod Endings
pub mod Found
pub mod Looks
pub mod Names
pub mod Refusals
pub mod Turns
