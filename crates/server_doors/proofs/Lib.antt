pub mod Sees
