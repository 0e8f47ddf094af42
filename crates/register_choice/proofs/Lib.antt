pub mod Operators
pub mod Coloured
pub mod Reasons
pub mod Named
pub mod WholePrograms
