mod Fitting
mod Following
mod Sourced
mod SourcedSteps
mod EachState
mod WorkedProofs
