pub mod Slots
pub mod SlotWays
pub mod Sessions
pub mod SessionWays
