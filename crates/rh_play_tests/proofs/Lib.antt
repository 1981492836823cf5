-- ChosenLemmas: what is chosen for a reason allows it.
pub mod ChosenLemmas
