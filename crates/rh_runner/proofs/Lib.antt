pub mod CellsLemmas
pub mod ChosenLemmas
pub mod ListLemmas
pub mod SingleLemmas
