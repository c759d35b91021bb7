pub mod Faults
pub mod Files
pub mod Lines
pub mod Tasks
pub mod Reading
pub mod Writing
pub mod Readers
