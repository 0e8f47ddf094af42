pub mod InsideNest
pub mod Makes
