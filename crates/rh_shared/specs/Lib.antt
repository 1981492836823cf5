pub mod Traces
pub mod Sits
pub mod Seats
pub mod Rests
pub mod Claims
pub mod Crews
pub mod Ends
pub mod Least
