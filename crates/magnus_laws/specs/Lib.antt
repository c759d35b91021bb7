pub mod Congruence
pub mod Maps
