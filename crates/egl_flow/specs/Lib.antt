pub mod Flow
pub mod Causes
pub mod Memory
pub mod Statuses
pub mod Inputs
pub mod Responses
