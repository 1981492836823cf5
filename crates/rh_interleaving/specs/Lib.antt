pub mod Made
pub mod SetUp
pub mod Start
pub mod Turned
