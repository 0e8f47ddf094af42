pub mod Tasks
pub mod Answering
pub mod SourceRows
pub mod Worked
