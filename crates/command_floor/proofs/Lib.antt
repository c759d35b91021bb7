pub mod Ending
pub mod Leading
pub mod Wording
mod Found
mod Options
mod Rows
