pub mod Table
pub mod Compatible
pub mod Keys
pub mod Configs
pub mod Laws
