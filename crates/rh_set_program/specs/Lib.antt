pub mod Endings
pub mod Followed
pub mod Notes
pub mod Scripts
