mod Compared
mod Finished
