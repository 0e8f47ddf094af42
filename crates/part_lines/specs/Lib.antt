pub mod Cuts
pub mod JournalLines
pub mod Journals
pub mod Parts
