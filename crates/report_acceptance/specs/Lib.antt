pub mod Accepting
pub mod Saying
