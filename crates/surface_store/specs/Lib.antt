pub mod Formats
pub mod Surfaces
pub mod Laws
pub mod Windows
pub mod WindowTables
