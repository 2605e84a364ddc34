pub mod WaitWords
pub mod WaitOutcomes
pub mod NewSyncLaws
pub mod FenceLaws
