-- What an insertion makes of a table, and why it is refused.
use Rattle.std.specs.Prelude.{◌≡◌, ℕ, ◌+◌, ◌<◌, IsTrue, IsFalse}
use Rattle.std.specs.FinSet as set
use Rattle.rh_layout.specs.Key.{IsKey}
use Rattle.rh_layout.specs.Layout.{Keys}
use Rattle.rh_layout.specs.declared.limits.TheConstants.{MAX_KEY, MAX_BITS}
use Rattle.rh_edit.specs.Held.{Held}
use Rattle.rh_grow.specs.Growth.{Fits, IsCapacity}
use Rattle.rh_set.specs.declared.fault.InsertFault.{InsertFault}
use Rattle.rh_set.specs.declared.fault.InsertFault.TheVariants.{NotAKey, Full, Memory}

-- each number of the set is a key
abbrev pub AreKeys : Keys → Type 0
AreKeys S = (k : ℕ) → IsTrue (set.contains S k) → IsKey k

-- how many keys there are with one more
abbrev pub one_more : Held → ℕ
one_more old = set.len old.keys + 1

-- The size of the table with this key: as it was where the key is there, and else the least that one more fits.
pub record IsSizeWith (old : Held) (key bits : ℕ) : Type 0 where
  pub there : IsTrue (set.contains old.keys key) → bits ≡ old.bits
  pub new : IsFalse (set.contains old.keys key) → IsCapacity old.bits (one_more old) bits

-- the number is a key that is not there
pub record IsNew (old : Held) (number : ℕ) : Type 0 where
  pub key : IsKey number
  pub absent : IsFalse (set.contains old.keys number)

-- Why the table takes no key more. Memory is wanted only where it has to grow, and may.
abbrev pub IsTight : Held → InsertFault → Type 0
IsTight old NotAKey = ⊥
IsTight old Full = ¬ Fits MAX_BITS (one_more old)
IsTight old Memory = (¬ Fits old.bits (one_more old)) × Fits MAX_BITS (one_more old)

-- why a number is not added
abbrev pub IsWhyNot : Held → (number : ℕ) → InsertFault → Type 0
IsWhyNot old number NotAKey = MAX_KEY < number
IsWhyNot old number fault = IsNew old number × IsTight old fault
