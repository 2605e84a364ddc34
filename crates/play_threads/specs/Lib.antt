pub mod Picks
pub mod Turns
pub mod Work
pub mod Plays
