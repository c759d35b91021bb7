-- bytes and names
pub mod Numbers
pub mod Marks
pub mod Finding
pub mod Naming
pub mod Ends
pub mod Swaps
-- programs, and the loops that make them
pub mod Algebra
pub mod Closing
pub mod Programs
pub mod Raising
pub mod Drafts
pub mod Turning
-- the parts of the grammar
pub mod Limits
pub mod Spelling
pub mod Lexing
pub mod Exponents
pub mod TokensStay
pub mod BadBytes
-- factors, and what a state of the reading stands for
pub mod Factors
pub mod Suffixes
pub mod Inside
-- one turn of the reading
pub mod PowersRead
pub mod PartsStay
pub mod Turns
pub mod Again
-- whole words
pub mod Reached
pub mod Tails
pub mod Reading
pub mod Letters
-- the first fault
pub mod Completed
pub mod Carets
pub mod Refused
pub mod RefusedNumbers
pub mod RefusedLengths
pub mod FirstFault
