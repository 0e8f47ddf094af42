mod Chains
mod Held
mod Pushed
mod Written
mod Walks
