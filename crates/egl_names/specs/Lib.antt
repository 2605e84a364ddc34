pub mod Names
pub mod Rows
pub mod Joined
pub mod Parts
pub mod Constants
pub mod Laws
