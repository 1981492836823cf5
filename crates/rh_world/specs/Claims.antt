-- The fourth part of the rule: the numbers that the workers took from the shared counter.
use Rattle.std.specs.Prelude.{zero, suc, ◌≡◌, ℕ, ◌+◌, ◌<◌, ◌≤◌, Bool, false, ◌||◌, nat_le, cond, List, [], ◌∷◌}
use Rattle.rh_world.specs.World.{World, IsFalling, In}
use Rattle.rh_world.specs.Sides.{Side}

-- whether a Claim found the end of the list: a number that names no key
abbrev pub found_end : (keys : ℕ) → (claims : List ℕ) → Bool
found_end keys [] = false
found_end keys (n ∷ ns) = nat_le keys n || found_end keys ns

-- how many of the first n workers found the end
abbrev pub ends_found : (keys : ℕ) → (ℕ → Side) → (n : ℕ) → ℕ
ends_found keys side zero = 0
ends_found keys side (suc n) = cond (found_end keys (side n).claims) (suc (ends_found keys side n)) (ends_found keys side n)

-- The numbers that were found are those below the counter, each by one worker and once. Beyond the keys it counts the
-- workers that found the end.
-- With two workers and one key the Claims of both find 0, the key's number, and 1, the end.
-- This is said of every number below the counter, and not only of those that name a key: the bound on the counter follows from
-- it.
pub record Claims (w : World) (side : ℕ → Side) : Type 0 where
  pub all : (n : ℕ) → n < w.counter → (v : ℕ) × (v < w.workers) × In n (side v).claims
  pub below : (v n : ℕ) → In n (side v).claims → n < w.counter
  pub one_worker : (u v n : ℕ) → In n (side u).claims → In n (side v).claims → u ≡ v
  pub once : (v : ℕ) → IsFalling (side v).claims
  pub ends : w.counter ≤ w.keys + ends_found w.keys side w.workers
