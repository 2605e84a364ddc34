pub mod Histories
pub mod Outcomes
pub mod Schedules
pub mod Listings
pub mod Plays
pub mod Recordings
