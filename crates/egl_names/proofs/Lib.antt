pub mod RowLaws
pub mod TableLaws
pub mod JoinLaws
pub mod NameLaws
