-- InsertLemmas and RemoveLemmas argue on ordered circles, as functions from cells to numbers. The files on layouts take
-- that to lists of cells, and those on segments to a part that is written over.
-- InsertLemmas: a key put in where it goes, with the keys from there on moved up by one.
-- HeldAfter: which values a circle of cells holds after one was put in.
-- InsertLayout: a layout with a key put in.
-- InsertSegment: a segment of a layout, written over with a key put in.
-- PutLemmas: the loop that puts a key in and moves on what it finds.
-- PushLemmas: a step of the loop that pushes cells on.
-- RemoveLemmas: a key taken out, with the keys after it moved back by one, up to a free cell or a key at home.
-- HeldOut: which keys are left when one is taken out.
-- RemoveLayout: a layout with a key taken out.
-- RemoveSegment: a segment of a layout, written over with a key taken out.
-- PullLemmas: the loop that moves keys back by one.
-- NewsLemmas: the values of a segment's news, one by one.
-- SetLemmas: what the calls of a `SeqSet` leave.
-- RisingLemmas: the keys of a set in rising order, and how they come of the cells of a layout.

pub mod NewsLemmas
pub mod InsertLemmas
pub mod PutLemmas
pub mod HeldAfter
pub mod PushLemmas
pub mod InsertLayout
pub mod InsertSegment
pub mod RemoveSegment
pub mod SetLemmas
pub mod RemoveLemmas
pub mod HeldOut
pub mod PullLemmas
pub mod RemoveLayout
pub mod RisingLemmas
