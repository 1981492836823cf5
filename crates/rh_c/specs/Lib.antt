pub mod Answers
pub mod Sets
