pub mod PhaseLemmas
