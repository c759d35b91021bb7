pub mod Subjects
pub mod Shown
pub mod Endings
