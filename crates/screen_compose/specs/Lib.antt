pub mod Placing
pub mod Fronts
pub mod Shown
pub mod Composing
pub mod Changes
pub mod Screens
pub mod Queues
pub mod Ends
