pub mod Entries
pub mod Base
pub mod Seals
pub mod Items
