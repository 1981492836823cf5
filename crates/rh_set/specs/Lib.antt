pub mod Inserting
pub mod Putting
pub mod Snapshot
