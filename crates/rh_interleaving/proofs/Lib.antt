-- A player is the model of a game of rh_turns, with `Plays` as its invariant; so each call has the laws of rh_turns for
-- its caller. The proofs go call by call.
-- Turning: what a turn makes of a game in play.
-- Rounds: a round that begins.
-- Showing: what a player shows of the cells and of the answers.
-- Totals: sums over all workers, as they are counted worker by worker.
-- Answering: what a player answers.
-- Starting: the first fault of a start, and what is so where there is none.
-- Dealing: the shares of the keys of a new player.
-- Setting: a player that is set up.
-- Room: a cell stays free.
-- Stops: what is so of a list, element by element.

mod Answering
mod Dealing
mod Room
mod Rounds
mod Setting
mod Showing
mod Starting
mod Stops
pub mod Totals
pub mod Turning
