-- From what clap finds in the words to a line:
-- SetLemmas: words that clap takes name a command of rhset.
-- RunLemmas: what clap found for `run` is what a line needs.
-- CheckLemmas: what clap found for `check` is what a line needs.

mod CheckLemmas
mod RunLemmas
mod SetLemmas
