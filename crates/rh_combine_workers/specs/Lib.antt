-- Groups: groups of consecutive parts
pub mod Groups
-- Questions: what is asked of lists of numbers
pub mod Questions
-- Spelled: numbers as they are written
pub mod Spelled
-- Written: what comes of lists, written
pub mod Written
