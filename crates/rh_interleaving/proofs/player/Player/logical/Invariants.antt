use Rattle.std.proofs.Common.{◌≡◌, ℕ, ◌<◌, length, get_or}
use Rattle.rh_turns.specs.Readable.{IsValueOf, views_of}
use Rattle.rh_interleaving.proofs.player.Player.logical.Given as goal

abbrev pub invariant-loop-cell : goal.invariant-loop-cell
invariant-loop-cell l = record {
  size : length l.cells ≡ length l.fn.cells;
  done : (c : ℕ) → c < l.cell → IsValueOf l.self.shape l.self.words (views_of l.self.hands) c (get_or l.cells c 0);
}
