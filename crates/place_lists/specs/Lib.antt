pub mod Links
pub mod Lists
pub mod Linked
pub mod Filing
