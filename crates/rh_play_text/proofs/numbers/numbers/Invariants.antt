use Rattle.std.proofs.Common.{◌≡◌, [], length}
use denote.Shadow.{shadow}
use denote.Text.{Utf8}
use Rattle.rh_lines.specs.Lines.{words_of}
use Rattle.rh_play_text.specs.Grammar.{numbers_after}
use Rattle.rh_play_text.proofs.numbers.numbers.Given as goal

-- what is left gives the numbers, after those so far
abbrev pub invariant-loop-word : goal.invariant-loop-word
invariant-loop-word l = shadow (Utf8 l.rest) × (numbers_after [] (words_of l.words) ≡ numbers_after l.found.items (words_of l.rest))

abbrev pub decreases-loop-word : goal.decreases-loop-word
decreases-loop-word l = length (words_of l.rest)
