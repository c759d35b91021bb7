pub mod Ends
pub mod Finishing
pub mod Rounds
