-- Each step of a script has an outcome, by the meaning of its command. The proofs show for each kind of step that the
-- run ends in that outcome, and join the steps to the script.
-- FileLemmas: the files of a script's world, and what stands at the paths of a shelf.
-- ListLemmas: the lists that have a name.
-- StepLemmas: how a step ends.
-- StateLemmas: from a step to what is left of the script's state.
-- RunLemmas: a script step by step.
-- UniqueLemmas: some accounts have one text, and the files of a script's world one map of bytes.
-- MadeLemmas: what steps make up to the first that is refused.
-- MeantLemmas: a run that nothing from outside ended.
-- FrontLemmas: what any run told.
-- AgreeLemmas: two runs of one script agree.
-- ReadLemmas: only what a script reads of the files matters.

pub mod FileLemmas
pub mod StepLemmas
pub mod ListLemmas
pub mod StateLemmas
pub mod RunLemmas
pub mod UniqueLemmas
pub mod MadeLemmas
pub mod MeantLemmas
pub mod FrontLemmas
pub mod AgreeLemmas
pub mod ReadLemmas
