pub mod Front
mod Lines
mod NoteLemmas
