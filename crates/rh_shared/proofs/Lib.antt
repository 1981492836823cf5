-- A step goes through four functions alone, one for each thing that becomes of a word.
-- Allowing: what each of the four asks for follows from the rule of the table, for every step at once.
-- Lending: a seat stays the same from step to step.
-- Claimed: a worker at rest is so after a Claim.
-- Crews: seats of several workers are cut and joined, and a worker that is fresh rests.
-- Clearing: what the seat of all workers may do in a wipe, and what becomes of its views.
-- Made: a table that is made meets the rule, and at its close the cells are those that the acts made.

mod Allowing
pub mod Lending
mod Claimed
pub mod Crews
mod Clearing
mod Made
