pub mod Nest
pub mod Chain
