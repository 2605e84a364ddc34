pub mod TwoSlotLaws
