pub mod Handing
pub mod Pairs
pub mod Kinds
pub mod Lines
pub mod Making
pub mod Checked
