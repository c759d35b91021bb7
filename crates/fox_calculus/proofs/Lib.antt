-- the terms of a word, and that they are few and small
pub mod Sums
pub mod LetterTerms
pub mod Short
pub mod Over
-- the list of generators, and its module
pub mod GrowingLists
pub mod Listed
pub mod Members
