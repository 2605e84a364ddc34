pub mod Meaning
pub mod Views
pub mod Values
pub mod Moves
pub mod Rule
pub mod Passes
