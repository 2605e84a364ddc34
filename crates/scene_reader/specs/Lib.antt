pub mod Items
pub mod Scenes
pub mod Lines
pub mod Headers
pub mod Grammar
pub mod Reading
pub mod Laws
