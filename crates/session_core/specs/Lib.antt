pub mod Questions
pub mod Verdicts
pub mod Meaning
pub mod Replies
pub mod Sessions
pub mod Proofs
