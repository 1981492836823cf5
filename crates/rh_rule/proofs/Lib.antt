-- The words and the world of rh_world meet here: `Represents` says where each part of a world stands in the words and in
-- what is kept of the workers, and nothing else names an index. There is a file for each kind of step: the world after it
-- is that of rh_world, and the words after it represent that world. The representation says something of a row only while the row
-- is of that descriptor or mark; so each of these files has the step first for a row that stands, and then for a
-- stale one.
-- Said: what the words of a table say, and what a swap finds in them.
-- Frames: a word that is set leaves the other parts of the table.
-- Kept: what stays of a representation, and how a new one is put together.
-- Touched: a step that sets the word of one part, and what stays of the representation then.
-- Erasing: the facts are the same in words and world without the numbers of acts and the entries of failures.
-- Deciders: a control without the entry at which it failed, as its word tells it.
-- ReadsKept: Reads, which change no word.
-- WritesKept: Writes and Claims.
-- OpensKept: Opens.
-- PlacesKept: Places.
-- DecidesKept: Decides.
-- CellsKept: the swaps of cells: Places, Settles and Releases.
-- StepLaw: each allowed step of a worker keeps the rule.
-- SeatsKept: the steps of a seat, and the moves beside them, keep the rule.
-- WipesKept: a wipe keeps the rule, from its beginning to its end.
-- Soundness: what a worker may rely on follows from the rule.
-- Telling: what the rule says of what is kept of the workers.

pub mod CellsKept
pub mod Deciders
pub mod DecidesKept
pub mod Erasing
pub mod Frames
pub mod Kept
pub mod OpensKept
pub mod PlacesKept
pub mod ReadsKept
pub mod Said
pub mod SeatsKept
pub mod Soundness
pub mod StepLaw
pub mod Telling
pub mod Touched
pub mod WipesKept
pub mod WritesKept
