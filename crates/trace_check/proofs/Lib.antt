pub mod WalkLaws
pub mod HoldsLaws
pub mod RunLaws
pub mod WrittenLaws
pub mod FrontLaws
