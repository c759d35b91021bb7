-- lead terms, and a pair's two multiples as the program computes them
pub mod Quotients
pub mod LeadTerms
pub mod Adding
pub mod CoverTests
-- sums of steps, entries, and where multiples stand
pub mod Members
pub mod Entered
pub mod Reducing
pub mod Exactness
pub mod Shifted
-- the criterion: closed tasks make a list strong
pub mod Coverage
pub mod Exchanges
pub mod Descending
pub mod Criterion
-- chains of pair vectors, and the converse of the criterion
pub mod Chaining
pub mod Determination
pub mod FallingSteps
pub mod Converse
