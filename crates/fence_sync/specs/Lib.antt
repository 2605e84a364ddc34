pub mod Fences
pub mod Tables
