pub mod Marking
pub mod Keeping
pub mod Pairing
pub mod Again
pub mod Once
