pub mod FenceLaws
pub mod ContextLaws
