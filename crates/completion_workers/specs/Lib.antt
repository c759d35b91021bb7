pub mod Growth
pub mod Fates
pub mod Answers
pub mod Asking
pub mod Acting
