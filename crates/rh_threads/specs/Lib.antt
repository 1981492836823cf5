pub mod Scanning
pub mod Keys
pub mod Buffer
pub mod Hands
pub mod Crew
pub mod Rounds
pub mod Made
