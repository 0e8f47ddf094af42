pub mod Config
pub mod Told
