-- The theorems on several workers are proved here once, of a World (cells, descriptors, marks, acts, the counter) and of
-- one Side for each worker (what it has done and knows). There is no word and no place of a word, so these proofs stay
-- as they are when rows are laid out or used in another way. They have a layer for each reading: what a change leaves of
-- the facts, then each part of the rule under each change, then the parts together, then the laws.
-- Updated: a function that is changed at one place; controls, references and options told apart.
-- Conditions: what is known when a descriptor is opened and when a mark is placed.
-- Tests: the tests that steps make, and what they tell.
-- Laters: each change that a step makes in the world is one that steps may make.
-- Stays: each kind of fact is kept by each change that a step may make.
-- RowsKept: each small change keeps rows, owing and facts.
-- SidesKept: what a worker notes keeps rows, owing and facts; Place and Open do too.
-- ActsKept: each small change keeps the acts; one kind of step changes what cells stand for.
-- PrefixesKept: each small change keeps the prefixes.
-- ClaimsKept: a Claim keeps the claims, and so does each other step, which makes none.
-- Partly: the first parts of the rule together: rows alone, with acts, or with acts and prefixes too.
-- PartsKept: each small change keeps the parts: one of the world, one of a Side, and the two of both.
-- StepsKept: each allowed step keeps the parts, as it is a change of the world and then changes of one Side.
-- StepsLater: each allowed step changes the world only as steps may.
-- StepLaws: each step keeps the rule, and so does each run of steps.
-- EndsKept: the rule at the start, in a new round and at rest; what it says of acts, prefixes and claims.
-- OwnList: a worker's acts are, in order, its descriptors that succeeded.
-- Passing: what is so of stale descriptors.
-- HelpedRun: the worked run is a run of allowed steps, and all are at rest at its end.

pub mod Updated
pub mod Conditions
pub mod Laters
pub mod Stays
pub mod RowsKept
pub mod SidesKept
pub mod ActsKept
pub mod PrefixesKept
pub mod Partly
pub mod PartsKept
pub mod Tests
pub mod StepsKept
pub mod ClaimsKept
pub mod StepsLater
pub mod OwnList
pub mod EndsKept
pub mod Passing
pub mod StepLaws
pub mod HelpedRun
