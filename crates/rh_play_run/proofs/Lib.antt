-- A play is read, begun, and carried out order by order. The proofs follow the schedule, and join what is printed on the
-- way.
-- Read: what the front of some bytes says of them all.
-- Begun: why a play begins, and why not.
-- Drawn: what is drawn of a play that was read and recorded.
-- Following: how a schedule goes on: each turn, pass and order before what is still to come.
-- Keeping: what no turn and no round changes of a game.
-- Played: what a play that was run has printed.
-- Written: three texts written one after the other.

mod Begun
mod Drawn
mod Following
mod Keeping
mod Played
mod Read
mod Written
