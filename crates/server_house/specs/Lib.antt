pub mod Shared
pub mod Posts
pub mod Sessions
pub mod Visits
pub mod Returned
pub mod Houses
pub mod Workers
pub mod Owned
