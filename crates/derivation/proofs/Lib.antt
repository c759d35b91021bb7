-- pieces, and letters with a gap
pub mod Inverses
pub mod PieceLemmas
pub mod GapLemmas
pub mod MoveLemmas
-- a move has one answer, and a list one outcome
pub mod Deciding
pub mod OneAnswer
pub mod OneOutcome
-- what moves reach
pub mod Runs
pub mod Reaching
pub mod Staying
pub mod TrivialLaws
-- texts
pub mod Lines
pub mod LineLists
pub mod WordEnds
pub mod Spelled
pub mod ReadAgain
pub mod TextLaws
