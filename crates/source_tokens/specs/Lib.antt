pub mod Bytes
pub mod Words
pub mod Numbers
pub mod Lexemes
pub mod Breaks
pub mod BuiltIns
pub mod Tokens
pub mod Givens
