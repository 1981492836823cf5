-- From what clap finds in the words to a line:
-- PackLemmas: words that clap takes name a command of rhpack.
-- SkipLemmas: what clap found for `check` and `pack` is what a line needs.
-- SplitLemmas: what clap found for `split` is what a line needs.

mod PackLemmas
mod SkipLemmas
mod SplitLemmas
