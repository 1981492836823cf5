-- ByNumber: whether a number is wanted depends on no other number
pub mod ByNumber
-- Rankings: the combinations of lists that occur, the most first
pub mod Rankings
-- Rows: numbers, and the lists in which each stands
pub mod Rows
-- Selections: which numbers of lists are wanted
pub mod Selections
-- Tallies: how many numbers of lists stand in just these of them
pub mod Tallies
-- Wanted: what is asked of lists, in one type
pub mod Wanted
