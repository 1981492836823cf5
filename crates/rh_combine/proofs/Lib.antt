-- All is argued of one number: what the sets hold of it is what the lists say of it (Meaning). What follows of whole lists
-- holds for any test of numbers, so for any range, and for whatever parts a range is cut in.
-- Meaning: which numbers come of lists, and of those numbers of them that pass a test.
-- Rising: the numbers of a set in rising order, and how many there are.
-- TableLemmas: what the loops over lists make of the sets in a table, and the room that they need.
-- RangeLaws: what comes of the numbers of a range, and of two ranges one after the other.
-- CutLemmas: the part in which a number stands, and the parts after one number more.
-- RangeLemmas: what comes of lists whose numbers stand in a range, and of the parts of the range.

pub mod Meaning
pub mod Rising
pub mod TableLemmas
pub mod RangeLaws
pub mod CutLemmas
pub mod RangeLemmas
