pub mod EmptyLemmas
pub mod Values
