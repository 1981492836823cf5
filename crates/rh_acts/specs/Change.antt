-- What an act makes of the values of a front.
use Rattle.std.specs.Prelude.{ℕ, ◌+◌, ◌<◌, List, length, ⊤}
use Rattle.rh_edit.specs.News.{inserted_at, shifted_back}
use Rattle.rh_acts.specs.declared.change.Change.{Change}
use Rattle.rh_acts.specs.declared.change.Change.TheVariants.{PutsIn, TakesOut, Stays}

abbrev pub changed : Change → List ℕ → List ℕ
changed (PutsIn value at) olds = inserted_at value olds at
changed (TakesOut at) olds = shifted_back olds at
changed Stays olds = olds

-- It has the offset of the change.
abbrev pub IsWithin : Change → List ℕ → Type 0
IsWithin (PutsIn value at) olds = at < length olds
IsWithin (TakesOut at) olds = at + 1 < length olds
IsWithin Stays olds = ⊤
