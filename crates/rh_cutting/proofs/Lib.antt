-- BorderLemmas: borders, and the part between two of them in which a number stands.
-- CutLemmas: parts of pieces, and of whole lists.
-- PartLemmas: one part of several, behind the vectors that hold them.

pub mod BorderLemmas
pub mod CutLemmas
pub mod PartLemmas
