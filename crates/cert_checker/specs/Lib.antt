pub mod Faults
pub mod States
pub mod Checking
pub mod Texts
pub mod Truth
