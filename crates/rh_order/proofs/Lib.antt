-- First the acts of a world become acts on what cells hold. A worker's own step is judged by what is kept of that worker
-- alone.
-- Values: what an act of the world makes of the values of the cells.
-- Happening: what the rule of a table says of the list of its acts at any moment.
-- Resting: the same where all workers are at rest: the acts of each, and the cells.
-- Noting: what a worker notes of the words that it reads: fact by fact, a read that is kept, or debts that are forgotten.
-- Learning: what a worker knows only grows: its facts and its reads stay in each step.
-- Finishing: the acts that a worker has finished, from step to step.
-- Succeeding: a worker's acts in the list of all, at any moment, are its descriptors that succeeded.
-- Ordered: under the rule what is kept of a worker's descriptors is in order.
-- Joining: rounds of a table, one after the other.
-- Filtered: what a filter keeps, where membership is by recursion.
--
-- Then the acts get keys. The rounds are joined to one list of acts, and rh_acts says what that list makes of the set.
-- Stepping: a run goes on by a step of one of its workers: what the step adds to the keys that it has done.
-- Turning: how a run starts, and how it goes on with a further round.
-- Standing: what the cells of a run stand for: the acts of all its rounds are a phase over their own keys.
-- Ending: what the workers have made at the end of a run.
-- Answering: what was asked for is answered from the first set.
-- Sharing: a shared list that the workers have claimed to its end, and what they made of it.
-- Showing: each key that is done shows in the set: its act is one of all, or what was read of it was true and stays so.
-- Knowing: a worker goes on knowing which cell it holds, from step to step.
-- Saying: what a cell stands for, read off the words, and of a stale descriptor off what the workers noted.
-- Leaving: no step changes what the cells stand for but one that lets a descriptor succeed.
-- Moving: a run goes on by its moves, so that at each moment it keeps the keys that are done.
-- Alike: a run tells of the workers of its table alone.
-- Growing: more is read, behind what was read before.

pub mod Values
pub mod Filtered
pub mod Happening
pub mod Joining
pub mod Noting
pub mod Learning
pub mod Finishing
pub mod Ordered
pub mod Succeeding
pub mod Resting
pub mod Growing
pub mod Stepping
pub mod Knowing
pub mod Saying
pub mod Showing
pub mod Standing
pub mod Answering
pub mod Ending
pub mod Turning
pub mod Sharing
pub mod Alike
mod Moving
mod Leaving
