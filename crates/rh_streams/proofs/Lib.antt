-- EndingLemmas: how a command may end.

pub mod EndingLemmas
