pub mod Account
pub mod Texts
