pub mod Hands
pub mod Game
pub mod Readable
pub mod Laws
