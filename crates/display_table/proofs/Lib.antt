pub mod ListedLaws
pub mod TableLaws
pub mod RiseLaws
pub mod PlaceLaws
