pub mod Failures
pub mod Fits
pub mod Helps
pub mod Reads
