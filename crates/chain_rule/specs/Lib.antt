pub mod ClosedPairs
pub mod Chaining
