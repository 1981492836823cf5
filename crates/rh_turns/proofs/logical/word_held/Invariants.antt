use Rattle.std.proofs.Common.{ℕ, ◌<◌}
use Rattle.rh_words.specs.Words.{ref_of}
use Rattle.rh_order.specs.Words.{HoldsCell}
use Rattle.rh_turns.specs.Readable.{views_of}
use Rattle.rh_turns.proofs.logical.word_held.Given as goal

abbrev pub invariant-loop-hand : goal.invariant-loop-hand
invariant-loop-hand l = (v : ℕ) → v < l.hand-index → HoldsCell (views_of l.hands v).side v (ref_of l.desc) l.cell → ⊥
