pub mod PowerLaws
pub mod TexelLaws
pub mod ItemLaws
pub mod DefectLaws
pub mod SceneLaws
