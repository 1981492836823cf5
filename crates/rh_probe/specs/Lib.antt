pub mod Look
pub mod Segment
