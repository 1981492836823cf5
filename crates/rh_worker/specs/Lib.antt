pub mod Deciding
pub mod ScanBuffer
pub mod Worker
pub mod Reading
pub mod Makes
pub mod Laws
