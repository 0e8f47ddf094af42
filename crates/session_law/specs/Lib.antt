pub mod SlotDoor
pub mod AttendedSlot
pub mod Tenants
pub mod Doors
pub mod Sessions
