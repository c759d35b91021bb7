pub mod Shelf
pub mod Load
pub mod Calls
pub mod Piece
pub mod Files
pub mod MemShelf
pub mod MemSink
pub mod Fs
