pub mod Lexing
pub mod Scanned
pub mod Breaking
