use Rattle.std.proofs.Common.{◌≡◌, map, take}
use Rattle.rh_tagword.specs.Word.{plain_number}
use Rattle.rh_tagword.proofs.word.plain_words.Given as goal

abbrev pub invariant-loop-value : goal.invariant-loop-value
invariant-loop-value l = l.words.items ≡ map plain_number (take l.value-index l.cells)
