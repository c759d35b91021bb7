pub mod Prefixes
pub mod Standing
pub mod Reading
pub mod Logs
pub mod Bases
pub mod Sitting
