pub mod Picks
pub mod Rows
pub mod Keyed
pub mod Holding
pub mod Put
pub mod Chosen
pub mod Leave
