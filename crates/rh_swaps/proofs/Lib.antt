-- The calls of one worker are loops over the machines of rh_helping at its seat. Each loop keeps what the machine asks
-- for at its next step.
-- Noting: what a worker has noted, from step to step.
-- Looking: what a worker that looks at a cell has read there.
-- Opened: the steps of an opening, one after the other.
-- Going: a worker that goes on with its own open descriptor, from step to step.
-- Carried: the acts that a worker at rest has made, after it noted more.
-- Swapped: what an own descriptor that was opened and carried out makes of a worker at rest.

pub mod Noting
mod Looking
pub mod Carried
mod Going
mod Opened
mod Swapped
