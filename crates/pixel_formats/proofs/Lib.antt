pub mod Sizes
pub mod Packed
