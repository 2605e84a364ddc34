pub mod PickLaws
pub mod LoneLaws
pub mod WorkLaws
pub mod RunLaws
pub mod PlayLaws
pub mod Sending
pub mod HiddenLaws
