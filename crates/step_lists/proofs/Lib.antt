-- one step, and where a sum parts from a vector
pub mod Stepping
pub mod Parting
-- many steps
pub mod AddingUp
