pub mod Tables
pub mod Memory
pub mod Threads
pub mod Groups
pub mod Counts
pub mod Touches
pub mod Verdicts
pub mod Found
