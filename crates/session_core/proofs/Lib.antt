mod Asking
mod Growing
mod Joining
mod Pending
mod Causes
