pub mod Ranges
pub mod Lists
pub mod Places
pub mod Causes
pub mod Laws
