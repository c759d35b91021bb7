-- lists, steps and signs
pub mod Lists
pub mod Passing
pub mod Signs
pub mod ShortWords
-- what entries and proofs come to
pub mod Agreeing
pub mod Members
-- texts, line by line
pub mod Versions
pub mod Telling
-- what a yes says, and the places that faults name
pub mod Soundness
pub mod Named
