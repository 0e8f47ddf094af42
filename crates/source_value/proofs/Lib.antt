pub mod Telling
pub mod Advances
pub mod Arguments
pub mod Replied
pub mod Trees
