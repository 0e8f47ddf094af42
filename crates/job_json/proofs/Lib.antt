pub mod CanonicalJobs
pub mod CanonicalTexts
pub mod Digits
pub mod Fronts
pub mod Items
pub mod Listed
pub mod Named
pub mod Operands
mod RoundTripInstr
mod RoundTripJob
mod RoundTripTenant
