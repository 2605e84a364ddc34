pub mod PairLaws
pub mod ListLaws
