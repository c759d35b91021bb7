pub mod Spelling
pub mod Over
