pub mod Streams
pub mod Shelf
