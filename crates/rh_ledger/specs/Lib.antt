pub mod Phase
pub mod Tally
