-- The words for what came of a turn, of a rest, and for the kinds of step.
use Rattle.std.specs.Prelude.{ℕ, List, codes}
use Rattle.rh_words.specs.declared.steps.StepKind.{StepKind}
use Rattle.rh_words.specs.declared.steps.StepKind.TheVariants as kinds
use Rattle.rh_play_text.specs.declared.endings.Last.{Last}
use Rattle.rh_play_text.specs.declared.endings.Last.TheVariants as lasts
use Rattle.rh_play_text.specs.declared.endings.Rest.{Rest}
use Rattle.rh_play_text.specs.declared.endings.Rest.TheVariants as rests

abbrev pub kind_word : StepKind → List ℕ
kind_word kinds.Write = codes "write"
kind_word kinds.Open = codes "open"
kind_word kinds.Read = codes "read"
kind_word kinds.Place = codes "place"
kind_word kinds.Settle = codes "settle"
kind_word kinds.Decide = codes "decide"
kind_word kinds.Release = codes "release"
kind_word kinds.Claim = codes "claim"

abbrev pub last_word : Last → List ℕ
last_word (lasts.Did kind) = kind_word kind
last_word lasts.Finished = codes "finished"
last_word lasts.Spent = codes "spent"
last_word lasts.NoWorker = codes "none"
last_word lasts.Limit = codes "limit"

abbrev pub rest_word : Rest → List ℕ
rest_word rests.Finished = codes "finished"
rest_word rests.Spent = codes "spent"
rest_word rests.Limit = codes "limit"
