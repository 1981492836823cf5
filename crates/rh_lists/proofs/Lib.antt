-- A text is read block by block, and each block in parts, which are joined.
-- Joining: two parts of a text, one behind the other.
-- Ending: the end of a text, and its first fault.
-- Texts: a text that is read block by block.
-- Told: what the first four bytes tell of a list.
-- Skips: what a reader that skips lines gives.
-- Agreeing: two readings of the same bytes.
-- Given: lists that are read, one after the other, and two readings of the same.

pub mod Joining
pub mod Ending
pub mod Texts
pub mod Told
pub mod Skips
pub mod Agreeing
pub mod Given
