pub mod WorldData
pub mod Represents
pub mod RawOf
pub mod Steps
