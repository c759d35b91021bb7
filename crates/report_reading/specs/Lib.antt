pub mod Telling
pub mod Trimmed
pub mod Forms
pub mod Reading
