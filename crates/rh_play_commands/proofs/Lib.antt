-- From what clap finds in the words to a line:
-- PlaysLemmas: words that clap takes name a command of rhplay.
-- FileLemmas: what clap found for a command that takes a file is what a line needs.
-- DrawLemmas: what clap found for `draw` is what a line needs.

mod DrawLemmas
mod FileLemmas
mod PlaysLemmas
