pub mod WindowUses
pub mod WindowForms
pub mod SwapLaws
