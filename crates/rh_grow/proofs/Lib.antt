pub mod GrowthLemmas
pub mod GrowingLemmas
