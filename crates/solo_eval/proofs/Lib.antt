mod Mapped
mod Holding
mod Present
pub mod Fuel
pub mod Verdicts
