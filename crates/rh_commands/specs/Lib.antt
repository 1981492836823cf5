pub mod Check
pub mod Dump
pub mod Line
