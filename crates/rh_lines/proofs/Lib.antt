-- Splitting: the first line of a text, and the first word of a line.
-- Printing: printable bytes are a text.
-- Reading: what a grammar says of the lines that were read, and of those that are left.

pub mod Splitting
mod Printing
pub mod Reading
