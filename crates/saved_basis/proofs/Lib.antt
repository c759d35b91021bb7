-- what begins a file
pub mod Beginning
pub mod Ranges
pub mod Strength
-- what comes of lines
pub mod Passing
pub mod Making
pub mod NextLines
pub mod Texts
pub mod EachLine
-- what comes of tasks
pub mod Named
pub mod Testing
-- texts that are written
pub mod Written
-- what was written is read
pub mod Excluding
pub mod Back
