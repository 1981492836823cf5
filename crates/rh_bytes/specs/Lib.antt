pub mod Counting
pub mod Input
pub mod Taking
pub mod Parts
