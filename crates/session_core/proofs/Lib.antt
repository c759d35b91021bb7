pub mod Judging
pub mod Exactness
pub mod StepSums
pub mod Keeping
