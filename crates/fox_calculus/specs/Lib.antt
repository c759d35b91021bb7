pub mod Fox
pub mod Generators
pub mod Module
pub mod Running
