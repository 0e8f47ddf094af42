pub mod SourceSerial
pub mod Agree
