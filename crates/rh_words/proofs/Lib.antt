pub mod IndexLemmas
pub mod Token
