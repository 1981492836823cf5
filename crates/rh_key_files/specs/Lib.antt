pub mod KeyFile
pub mod Reading
pub mod Limits
pub mod Parts
pub mod Source
pub mod State
pub mod Stream
pub mod HeldKeys
