pub mod FirstLine
pub mod Journal
pub mod Printed
pub mod Torn
