-- A snapshot is read by steps, as a key file is, and what is so of the steps of both is shown in rh_bytes. Its numbers are
-- hashed as they come, and then the seal is tested.
-- Numbers: the text of numbers, as one more of them is read.
-- Keys: numbers of a file, and the cells and keys that they stand for.
-- Seal: a seal is 32 bytes.
-- Whole: a whole snapshot, read by its header, its numbers, its seal and its end.
-- Bounds: which faults come where in a snapshot, and how many bytes are taken before they are told.
-- Grammar: what is spelled as a snapshot is read to its table, and what is read is spelled so.
-- Sealing: a text that was appended, and then its seal.

pub mod Seal
pub mod Numbers
pub mod Whole
pub mod Keys
pub mod Sealing
pub mod Grammar
pub mod Bounds
