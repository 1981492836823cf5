pub mod Phrases
pub mod Telling
