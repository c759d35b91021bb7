pub mod Pairs
pub mod Results
pub mod Covering
pub mod Tasks
pub mod Generating
