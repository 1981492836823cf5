-- A hand is what one worker of a phase has done. The proofs go from the calls for one key to a worker's hand, from the
-- hands to a round, and from round to round to what the phase makes.
-- Keying: what the calls of a worker that rests make of the key that it is at.
-- Scanning: a scan goes on where the cells that it saw decide nothing.
-- Standing: a worker claims its next key, and comes as far as its hand says.
-- Crews: crews that are cut and glued, and what their workers have done.
-- Gathering: a round is gathered from what each worker's hand says, its table is wiped, and the next one is begun.
-- Sums: what all hands have counted, and what they have marked.
-- Beginning: how a phase begins.
-- Ending: what a phase makes, once all keys of its list are done.
-- Closing: what the workers have made, where they have done it and are at rest, and what is answered of it.

pub mod Keying
mod Scanning
mod Standing
mod Crews
mod Gathering
mod Sums
mod Ending
mod Beginning
mod Closing
