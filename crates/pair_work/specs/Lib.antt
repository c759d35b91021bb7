pub mod Faults
pub mod Recipes
pub mod Outcomes
pub mod Works
