pub mod InternalFormats
pub mod Renderbuffers
pub mod Framebuffers
pub mod Completeness
pub mod Attachments
