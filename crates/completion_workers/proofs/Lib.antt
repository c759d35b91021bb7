pub mod Growing
pub mod Answering
pub mod Going
pub mod Working
