use Rattle.std.proofs.Common.{◌≡◌, ℕ, ◌<◌, ◌≤◌, length, take, get_or}
use Rattle.rh_words.specs.Parts.{cell_count}
use Rattle.rh_turns.specs.declared.hand.Hand.{Hand}
use Rattle.rh_turns.specs.Laws.{HandBegins}
use Rattle.rh_interleaving.proofs.turns.begin_round.Given as goal

abbrev pub invariant-loop-number : goal.invariant-loop-number
invariant-loop-number l = record {
  size : length l.hands ≡ length l.fn.hands;
  begun : (v : ℕ) (other : Hand) → v < l.number → HandBegins l.shape (take (cell_count l.shape) l.fn.words) (get_or l.fn.hands v other) (get_or l.hands v other);
  rest : (v : ℕ) (other : Hand) → l.number ≤ v → get_or l.hands v other ≡ get_or l.fn.hands v other;
}
