-- values between separators, and what is written
pub mod Parts
pub mod Writing
-- factors and their powers
pub mod FactorTexts
pub mod FactorLists
pub mod Powers
-- monomials, places, terms, vectors
pub mod MonomialTexts
pub mod PlaceTexts
pub mod TermTexts
pub mod VectorTexts
pub mod Over
-- back again
pub mod ReadingBack
