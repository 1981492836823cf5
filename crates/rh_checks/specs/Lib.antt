-- Lines: the lines of a text, and which of them are bad
pub mod Lines
-- Walk: what passes from one byte to the next
pub mod Walk
-- Lists: what was found in a list
pub mod Lists
-- Sums: what the numbers of a list are
pub mod Sums
-- Checks: what is answered of a list that is checked
pub mod Checks
-- Texts: what is told of it
pub mod Texts
