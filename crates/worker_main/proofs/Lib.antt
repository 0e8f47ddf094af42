mod Keeping
mod Rounds
mod Telling
