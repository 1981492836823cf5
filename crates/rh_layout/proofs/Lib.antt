-- The proofs see a table as a function from cells to numbers, and know nothing of lists or hashing: the order round the
-- circle is argued there. LayoutLemmas goes between that view and lists of cells.
-- RoundLemmas: arithmetic on cells in a circle.
-- OrderLemmas: the order of keys round a circle of cells.
-- HeldLemmas: which keys a circle of cells holds, and where.
-- UniqueLemmas: two ordered circles with the same keys are one.
-- HomeLemmas: the home of a key is a cell of the table.
-- SetLemmas: sets of keys: what they hold after a key was added or taken out, and when two are one.
-- KeySetLemmas: the set of the keys that a list of cells holds.
-- LayoutLemmas: a list of cells is a layout where its cells, as a function, are an ordered circle, and only there.
-- CountLemmas: how many keys a layout holds, and how many of its cells are free.
-- PlacedLemmas: a layout, from what each cell holds beside the one before it, and back.
-- TestLemmas: the test of a layout tells just what it is to be one.
-- OneLayout: a set has one layout with a free cell.

pub mod RoundLemmas
pub mod OrderLemmas
pub mod HomeLemmas
pub mod SetLemmas
pub mod KeySetLemmas
pub mod HeldLemmas
pub mod LayoutLemmas
pub mod CountLemmas
pub mod UniqueLemmas
pub mod PlacedLemmas
pub mod TestLemmas
pub mod OneLayout
