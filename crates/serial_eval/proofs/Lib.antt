mod Nests
mod Makers
