pub mod WordLemmas
pub mod ControlLemmas
pub mod PlainWords
