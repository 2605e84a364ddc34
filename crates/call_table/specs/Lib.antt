pub mod Names
pub mod Roles
pub mod Rows
