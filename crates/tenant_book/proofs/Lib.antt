pub mod Fronts
pub mod Adding
pub mod Entering
pub mod Moments
pub mod Following
pub mod Beginning
