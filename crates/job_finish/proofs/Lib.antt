pub mod Going
pub mod Quiet
