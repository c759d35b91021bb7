pub mod Machine
pub mod Askers
pub mod Invariants
pub mod Inner
pub mod Opening
pub mod Runs
