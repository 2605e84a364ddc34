pub mod Components
pub mod Formats
pub mod Pixels
pub mod Bounds
pub mod Sizes
pub mod Laws
