-- A text is read part by part, and each part byte by byte; the proofs join the parts to the text, and tell its keys or
-- its first fault.
-- SoFar: what is so of a line of which the reader has come so far.
-- Head: the head of a text, and a line that is none.
-- Fronts: the keys that were read come first among those that are said.
-- Parts: a text that is read in parts.
-- Chunks: a chunk of a text, read line by line.
-- FewDigits: plain lines, of a few digits and what ends a line.
-- TwoTexts: two texts one after the other, of which the first is whole lines.
-- Taken: how much of a text is taken up to its first fault.
-- Meaning: what is read is a text of its keys.
-- Spelling: a text of keys is read to them.
-- Faults: the first faulty line gives the fault.
-- Lines: numbers written one after another.
-- Excerpts: the line of a text that is shown.
-- Searching: a line that is looked for in one part after the other.

pub mod Lines
pub mod Excerpts
pub mod Searching
pub mod Head
pub mod Fronts
pub mod Parts
pub mod Taken
pub mod SoFar
pub mod Meaning
pub mod Spelling
pub mod Faults
pub mod Chunks
pub mod FewDigits
pub mod TwoTexts
