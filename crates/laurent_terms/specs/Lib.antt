pub mod Monomials
pub mod Factors
pub mod Orders
