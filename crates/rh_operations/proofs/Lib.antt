-- Standing: what a list whose file is known gives.
-- Refusing: why nothing was made of a list.
-- Making: what is made of a set by keys.
-- SavedLemmas: a list in memory.
-- SizeLemmas: the size of a table.

pub mod Standing
pub mod Refusing
pub mod Making
pub mod SavedLemmas
pub mod SizeLemmas
