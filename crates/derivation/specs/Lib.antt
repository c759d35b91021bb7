pub mod Moves
pub mod Making
pub mod Pieces
pub mod Reading
pub mod Grammar
