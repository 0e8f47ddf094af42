pub mod Groups
mod AsciiNames
mod ConfigTests
mod Padding
