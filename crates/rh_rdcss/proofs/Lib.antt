-- Each call is made of single steps at the seat, and the proofs speak of what is kept of the worker alone.
-- Looked: what a look at a cell or at a control notes.
-- EntriesRead: the length of a descriptor and the words of an entry are read in its row, and then the entry is known.
-- MarkRows: the mark row is written, and then the mark may be placed; and its worker keeps for what it is.
-- MarksMet: a mark that was met is settled stage by stage, and the own one by its control.

pub mod EntriesRead
pub mod MarkRows
pub mod MarksMet
mod Looked
