-- monomials, exponent by exponent
pub mod Combining
pub mod Variables
pub mod IntegerVectors
pub mod Division
-- their order
pub mod Ranks
pub mod Descent
-- factors of a greatest common divisor
pub mod Divisors
pub mod LeastFactors
