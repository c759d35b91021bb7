mod Listing
mod Heads
pub mod Placing
pub mod WordBytes
pub mod LineBytes
mod Excluding
mod Agreeing
