-- numbers, names and lists
pub mod Ends
pub mod Digits
pub mod Quotients
pub mod Distinct
pub mod NameLists
pub mod SameLists
-- reading, step after step
pub mod WordsRead
pub mod NameTurns
pub mod RelatorTurns
pub mod Steps
pub mod Keywords
-- what is read is what the grammar has
pub mod WordAgain
pub mod Sound
pub mod SoundWhole
pub mod Limits
pub mod Complete
pub mod WholeTexts
-- writing words
pub mod WritingRuns
pub mod WritingSteps
pub mod WritingBytes
pub mod WritingFollows
pub mod WritingNames
pub mod WritingEnds
pub mod WritingPowers
pub mod WritingTurns
pub mod WritingBack
-- writing presentations
pub mod WritingLists
pub mod WritingWhole
