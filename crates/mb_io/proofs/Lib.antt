-- files by their names
pub mod Finding
-- what a shelf gives, and what a sink takes
pub mod Giving
pub mod Taking
