pub mod Contents
pub mod Usages
pub mod Buffers
