mod Held
mod Looking
