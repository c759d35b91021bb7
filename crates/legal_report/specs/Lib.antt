pub mod Legal
pub mod Gathering
pub mod Seats
pub mod TrueAnswers
pub mod Answering
pub mod Solutions
pub mod Last
