pub mod Sights
pub mod Rows
pub mod Items
pub mod Places
pub mod Seats
pub mod Refusals
