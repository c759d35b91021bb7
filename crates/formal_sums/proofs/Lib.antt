-- integers and keys
pub mod Integers
pub mod Floors
pub mod Keys
pub mod IntegerTuples
-- coefficients, and sums that fall
pub mod Coefficients
pub mod Falling
pub mod Shortest
-- the universal property, and what a set of sums spans
pub mod Evaluation
pub mod Spans
