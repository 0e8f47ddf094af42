pub mod Ready
pub mod Parts
