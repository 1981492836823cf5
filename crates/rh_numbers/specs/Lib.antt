pub mod Digits
pub mod Grammar
pub mod Reading
pub mod Parts
pub mod Chunks
pub mod Writing
pub mod Excerpt
pub mod Search
