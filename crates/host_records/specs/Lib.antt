pub mod Endings
pub mod Journals
pub mod Outlets
