pub mod Snapshot
pub mod Reading
pub mod Limits
pub mod Parts
