-- A key file is read by the steps of rh_bytes. They are joined to batches, and the batches to a whole file.
-- Decoded: numbers that are made of the bytes that spell them.
-- Steps: the version that four bytes name.
-- Filled: a part of a key file: the keys that its bytes spell, and their test.
-- Interrupted: keys of which a failed read cut the rest off.
-- Next: the next batch, or the end.
-- Blame: the reader of a stream that told a failed read.
-- Coming: what is still to come of a stream of keys.
-- Tested: keys that were taken behind a header, where a failed read or want of memory is told.
-- Whole: a whole key file, read by its header or by the number behind its magic, its keys and its end.
-- Bounds: which faults come where, and how many bytes are taken before they are told.
-- PieceBounds: how many bytes are taken of a key file of any number of keys, behind its magic.
-- LongFile: a key file of any number of keys: its magic, and then what stands behind it.
-- Grammar: what is spelled as a key file is read to its keys, and what is read is spelled so.
-- Written: key files, written text by text.

pub mod Steps
pub mod Filled
pub mod Interrupted
pub mod Decoded
pub mod Bounds
pub mod Next
pub mod Whole
pub mod Tested
pub mod PieceBounds
pub mod LongFile
pub mod Grammar
pub mod Written
pub mod Blame
pub mod Coming
