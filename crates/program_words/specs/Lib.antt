pub mod Rules
pub mod Durable
pub mod Numbers
pub mod ServerOptions
pub mod HostOptions
