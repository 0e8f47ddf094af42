pub mod Stands
pub mod Views
