pub mod Saying
pub mod Appending
pub mod Lines
pub mod Words
pub mod Grammar
pub mod Play
