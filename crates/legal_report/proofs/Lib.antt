pub mod Fronts
mod Prefixes
mod Legality
mod Actors
mod Completed
mod Asking
mod Answering
mod Ranges
pub mod Reportable
mod Lasting
pub mod TrueAnswers
mod Accepted
mod Concluding
