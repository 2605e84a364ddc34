pub mod Draws
pub mod Samples
pub mod Parts
pub mod Painted
pub mod Calls
pub mod Runs
