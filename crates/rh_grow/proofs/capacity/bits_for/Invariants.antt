use Rattle.std.proofs.Common.{ℕ, ◌+◌, ◌<◌, ◌≤◌}
use Rattle.rh_grow.specs.Growth.{Fits}
use Rattle.rh_grow.proofs.capacity.bits_for.Given as goal

-- no size so far does
abbrev pub invariant-loop-size : goal.invariant-loop-size
invariant-loop-size l = (c : ℕ) → l.bits ≤ c → c < l.size → Fits c (l.held + l.more) → ⊥
