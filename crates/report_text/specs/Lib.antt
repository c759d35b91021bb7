pub mod Logs
pub mod Histories
pub mod Answers
pub mod Closing
pub mod Reports
pub mod Writing
