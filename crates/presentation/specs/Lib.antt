pub mod Presented
pub mod Writing
pub mod Line
pub mod Reading
pub mod Grammar
