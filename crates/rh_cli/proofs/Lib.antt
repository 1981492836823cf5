-- ProgressLemmas: the line that tells how far work is.

mod ProgressLemmas
