pub mod Members
pub mod Generators
pub mod Vectors
pub mod Growing
pub mod Sizes
pub mod Over
pub mod Firsts
