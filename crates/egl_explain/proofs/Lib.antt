pub mod DecidingLaws
pub mod ThreadLaws
pub mod ReferenceLaws
pub mod BirthLaws
pub mod StatusLaws
pub mod JudgingLaws
pub mod PieceLaws
pub mod JsonLaws
