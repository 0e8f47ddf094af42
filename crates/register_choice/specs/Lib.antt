pub mod Choice
pub mod Reasons
pub mod Refusals
pub mod Programs
pub mod Names
pub mod Keeping
