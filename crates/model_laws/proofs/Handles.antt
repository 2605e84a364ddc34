pub mod DisplayLaws
pub mod DestroyLaws
pub mod KindSteps
pub mod CurrentLaws
pub mod NewHandleLaws
pub mod Named
pub mod FirstUse
