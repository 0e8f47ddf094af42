pub mod Lines
pub mod Slices
