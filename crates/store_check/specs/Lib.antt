pub mod TwoSlots
pub mod OneSlot
