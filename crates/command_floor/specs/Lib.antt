pub mod Codes
pub mod Answers
pub mod Ends
pub mod Files
pub mod Numbers
pub mod Settings
pub mod Parsing
pub mod Commands
