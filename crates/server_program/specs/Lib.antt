pub mod Ends
pub mod Dumps
