-- The words of a line are read as a command. The plan of a script grows by one line at a time, and the proofs say what each
-- line adds.
-- Naming: what the steps so far give.
-- Order: what the grammar reads is in order.
-- Positions: the places of the names that are given.
-- Numbering: a step more of a plan.

pub mod Numbering
pub mod Naming
pub mod Order
pub mod Positions
