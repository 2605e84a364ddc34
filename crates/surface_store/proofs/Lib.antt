pub mod FormatLaws
pub mod WindowLaws
