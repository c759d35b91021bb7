-- falling terms
pub mod Joins
-- terms under the coefficients of a map
pub mod Overlays
-- changes, and the difference to which they lead
pub mod Differences
