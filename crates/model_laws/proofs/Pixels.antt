pub mod WantLaws
pub mod WantedWindows
pub mod TextureLaws
pub mod BufferLaws
pub mod RenderbufferLaws
pub mod SiblingLaws
pub mod ImageLaws
pub mod PixelLaws
