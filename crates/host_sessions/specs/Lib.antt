pub mod Answers
pub mod Hellos
