pub mod Halfway
pub mod Marks
pub mod ReadsBack
pub mod Rooms
pub mod Stale
