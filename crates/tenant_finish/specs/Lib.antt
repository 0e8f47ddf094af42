pub mod Recovered
pub mod Recovering
