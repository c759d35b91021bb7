pub mod FormalSum
pub mod Keys
pub mod Evaluation
pub mod IntegerTuple
pub mod Span
