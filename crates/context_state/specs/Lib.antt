pub mod Bindings
pub mod Parts
pub mod Kinds
pub mod Arguments
pub mod Refusals
pub mod Calls
