pub mod Places
pub mod Shelf
pub mod Kinds
