use Rattle.std.proofs.Common.{◌≡◌}
use Rattle.rh_words.specs.Words.{ref_of}
use Rattle.rh_order.specs.Words.{entry_for}
use Rattle.rh_turns.proofs.logical.word_in_row.Given as goal

abbrev pub invariant-loop-entry : goal.invariant-loop-entry
invariant-loop-entry l = entry_for l.shape l.words (ref_of l.fn.desc) l.cell l.entry ≡ l.value
