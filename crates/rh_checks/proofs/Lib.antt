-- A text is walked over byte by byte, and read part by part; the proofs join the bytes to lines, and the parts to the text.
-- Walks: the walk over the bytes of a text finds what its lines say.
-- Parts: a text that is read in parts.
-- Told: what the first four bytes tell of a list.
-- Spans: the least and the greatest of numbers.
-- Same: the first bad line of a text is the fault that its reader tells.
pub mod Walks
pub mod Parts
pub mod Told
pub mod Spans
pub mod Same
