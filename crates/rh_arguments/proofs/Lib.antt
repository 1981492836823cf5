-- What clap finds is said by its own contracts, of a command that is built and of words. The proofs go from the command
-- that is built to what is found in the words, and in the crates above from that to a line.
-- BuilderLemmas: a command with one more subcommand.
-- CommandLemmas: words that clap takes name a command of the program.
-- HelpLemmas: words that clap takes do not name the subcommand `help`, which it answers with a text instead.
-- RowLemmas: which arguments have a row where clap takes the words: those with a default, and those that have to be given.
-- ValueLemmas: what clap took for an argument whose action is `Set`: a text that its parser accepts, read as the parser says.
-- ReadLemmas: what the getters of clap's matches read.
-- FlagLemmas: a text that is compared with a word.
-- FoundLemmas: what clap found for a number or a text is what a line needs.

pub mod BuilderLemmas
pub mod CommandLemmas
mod FlagLemmas
pub mod FoundLemmas
pub mod HelpLemmas
pub mod ReadLemmas
pub mod RowLemmas
pub mod ValueLemmas
