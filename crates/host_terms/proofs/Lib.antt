pub mod BothThere
