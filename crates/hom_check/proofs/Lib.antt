pub mod Fitting
pub mod Chaining
