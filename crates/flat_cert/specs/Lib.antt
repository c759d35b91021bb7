pub mod Images
pub mod Certificates
pub mod Weights
pub mod Checking
pub mod Adding
pub mod Texts
pub mod Writing
