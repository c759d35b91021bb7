pub mod Leading
pub mod Masking
pub mod Searching
pub mod Indexing
