mod Generated
pub mod SessionFiles
mod Found
mod Replayed
mod ReplayFound
mod GivenLimits
mod SaveFound
mod LoadFound
pub mod Settled
