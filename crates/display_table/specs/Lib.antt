pub mod Handles
pub mod Tables
