pub mod RowLaws
pub mod Changing
pub mod ScreenLaws
pub mod ShownLaws
pub mod QueueLaws
pub mod Blending
pub mod SnapshotLaws
pub mod Sending
