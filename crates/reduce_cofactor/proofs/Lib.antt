-- falling terms, and where no step is due
pub mod FallingFronts
pub mod Resting
-- one step of the code is one of the chain
pub mod Stepping
pub mod Merges
-- what a reduction answers
pub mod Answering
