pub mod MatchLaws
pub mod SortLaws
pub mod ChoiceLaws
pub mod ConfigLaws
