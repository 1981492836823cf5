-- Cutting: one command of a set and a list, of which those keys are left that pass a test.
-- States: all commands, of all sets and lists.
-- Meant: what a script means is what its commands make.

pub mod Cutting
pub mod States
pub mod Meant
