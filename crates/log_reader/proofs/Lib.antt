pub mod AnswerLaws
pub mod LineLaws
pub mod OrderLaws
pub mod ItemLaws
pub mod ReadingLaws
