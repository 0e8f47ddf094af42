pub mod CanonicalLines
pub mod Calling
mod Exactness
mod LineAnswers
mod LineLaws
mod NewlinePlaces
mod Parts
mod Telling
mod Work
