pub mod LookLemmas
pub mod ProbeLemmas
