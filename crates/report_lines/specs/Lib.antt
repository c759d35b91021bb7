pub mod Parts
pub mod Texts
pub mod Lines
pub mod Reading
pub mod Trimmed
