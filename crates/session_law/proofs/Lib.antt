pub mod Counting
pub mod Turning
pub mod Standing
pub mod Simulating
pub mod Attending
pub mod Sessions
