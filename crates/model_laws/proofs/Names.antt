pub mod NameLaws
pub mod DeletionLaws
pub mod DetachLaws
pub mod StatusLaws
