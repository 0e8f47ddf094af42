pub mod RawLines
pub mod Spelled
pub mod Named
pub mod Knowing
pub mod Takes
