pub mod Instruction
pub mod Names
pub mod Grammar
pub mod Plan
pub mod Steps
pub mod Script
