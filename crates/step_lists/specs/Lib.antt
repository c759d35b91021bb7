pub mod Sums
pub mod Partial
pub mod Laws
