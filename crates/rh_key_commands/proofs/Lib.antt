-- From what clap finds in the words to a line:
-- KeysLemmas: words that clap takes name a command of rhkeys.
-- ListsLemmas: what clap found for a command on lists is what a line needs.

mod KeysLemmas
mod ListsLemmas
