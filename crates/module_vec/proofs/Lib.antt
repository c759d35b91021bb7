-- places, and terms in falling order
pub mod Order
pub mod FallingTerms
-- sums and differences of vectors
pub mod Merging
pub mod Collecting
pub mod Lookups
-- reducers, and what is determined
pub mod Scans
pub mod Determined
