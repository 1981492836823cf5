-- What is put at the front of a slice, and why nothing is.
use Rattle.std.specs.Prelude.{◌≡◌, ℕ, ◌<◌, List, length, take, drop}
use Rattle.rh_set.specs.declared.fault.PutFault.{PutFault}
use Rattle.rh_set.specs.declared.fault.PutFault.TheVariants.{NoRoom, Memory}

-- so many items stand at the front, and behind them what stood there
pub record IsPutInFront {T : Type 0} (items old new : List T) (count : ℕ) : Type 0 where
  pub count_is : count ≡ length items
  pub front : take count new ≡ items
  pub rest : drop count new ≡ drop count old

-- there are so many, and room for fewer
pub record LacksRoom (many room : ℕ) (fault : PutFault) : Type 0 where
  pub is : fault ≡ NoRoom many
  pub less : room < many

-- Why so many are not put. Of want of memory nothing is said.
abbrev pub IsWhyNotPut : (many room : ℕ) → PutFault → Type 0
IsWhyNotPut many room (NoRoom count) = (count ≡ many) × (room < many)
IsWhyNotPut many room Memory = Unit {0}
