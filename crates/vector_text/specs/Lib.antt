pub mod Spelling
pub mod Over
pub mod Reading
