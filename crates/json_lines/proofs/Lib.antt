pub mod FloatLaws
pub mod LineLaws
