-- A file is read by steps from a reader, each of which takes some bytes and gives what they spell, or a fault. A text is
-- written piece by piece.
-- Reading: reading from a reader, one step after another.
-- Parsed: bytes that spell what is read of them, and the other way round.
-- Told: which faults a reading may tell.
-- Many: numbers one after the other, each by a step.
-- Parts: parts of a file, read one after the other.
-- Taking: how many bytes calls take together.
-- Spelled: bytes and the numbers that they spell.
-- Writing: texts written one after another.
-- Filling: a buffer of which a part was filled.

pub mod Taking
pub mod Spelled
pub mod Reading
pub mod Parsed
pub mod Told
pub mod Writing
pub mod Filling
pub mod Parts
pub mod Many
