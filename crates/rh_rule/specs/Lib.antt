pub mod Erased
pub mod Represents
pub mod Core
pub mod Sound
pub mod Rest
pub mod Wipes
pub mod Traces
pub mod Seats
