-- A text of a play is read as a script is: line by line, and each line word by word. A draft of the play grows with each
-- line.
-- Numerals: the number of a word, and those of the words of a line.
-- Entering: a line more of a draft.

pub mod Numerals
pub mod Entering
