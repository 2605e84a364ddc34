pub mod AnswerLaws
pub mod ProcessLaws
pub mod WordLaws
