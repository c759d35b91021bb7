-- integers: greatest common divisors and least common multiples
pub mod Gauss
pub mod GcdQuotients
pub mod CommonMultiples
-- the rule
pub mod ChainRule
-- lists of closed pairs
pub mod ClosedPairs
pub mod Selected
