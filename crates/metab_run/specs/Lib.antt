pub mod Words
pub mod Owed
pub mod Top
