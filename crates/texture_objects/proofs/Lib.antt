pub mod GreatestLaws
pub mod LevelLaws
pub mod TextureLaws
pub mod UploadLaws
