-- How many bytes calls take together.
use Rattle.std.proofs.Common.{ℕ, ◌+◌, ◌≤◌, List, [], ◌++◌, Option, None, arith, length-append}
use Rattle.std.proofs.KnownBytes.{Consumes-nil, Consumes-trans}
use Rattle.rh_bytes.specs.Taking.{TakesAtMost}

-- of a reader whose bytes are not known nothing is said
pub takes_of_unknown : (new : Option (List ℕ)) (n : ℕ) → TakesAtMost None new n
takes_of_unknown new n = record { taken = []; consumed = tt; few = omega arith }

pub takes_nothing : (a : Option (List ℕ)) (n : ℕ) → TakesAtMost a a n
takes_nothing a n = record { taken = []; consumed = Consumes-nil a; few = omega arith }

-- a larger bound
pub takes_fewer : (a b : Option (List ℕ)) (m n : ℕ) → TakesAtMost a b m → m ≤ n → TakesAtMost a b n
takes_fewer a b m n t le = record { taken = t.taken; consumed = t.consumed; few = omega (arith, t.few, le) }

-- one call after the other
pub takes_then : (a b c : Option (List ℕ)) (m n : ℕ) → TakesAtMost a b m → TakesAtMost b c n → TakesAtMost a c (m + n)
takes_then a b c m n s t = record {
  taken = s.taken ++ t.taken;
  consumed = Consumes-trans a b c s.taken t.taken s.consumed t.consumed;
  few = omega (arith, s.few, t.few, length-append s.taken t.taken);
}

-- one call after the other, within a bound for both
pub takes_both : (a b c : Option (List ℕ)) (m n most : ℕ) → TakesAtMost a b m → TakesAtMost b c n → m + n ≤ most → TakesAtMost a c most
takes_both a b c m n most s t le = takes_fewer a c (m + n) most (takes_then a b c m n s t) le
