pub mod SerialValues
pub mod Worked
