-- What actions make of a set and a list.
use Rattle.std.specs.Prelude.{ℕ, List}
use Rattle.std.specs.FinSet as set
use Rattle.rh_layout.specs.Layout.{Keys}
use Rattle.rh_ledger.specs.Phase.{set_after}
use Rattle.rh_ledger.specs.declared.tally.Kind.TheVariants.{Insert, Remove}
use Rattle.rh_runner.specs.declared.chosen.Chosen.TheVariants.{Absent, Present}
use Rattle.rh_runner.specs.Lists.{chosen}
use Rattle.rh_script.specs.declared.action.Action.{Action}
use Rattle.rh_script.specs.declared.action.Action.TheVariants.{Add, Drop, Keep, Flip, Ask}

-- of the keys that are held those of the list
abbrev pub kept : Keys → List ℕ → Keys
kept S keys = set_after Insert set.empty (chosen Present S keys)

-- without the keys of the list that were held, and with the others
abbrev pub flipped : Keys → List ℕ → Keys
flipped S keys = set_after Insert (set_after Remove S keys) (chosen Absent S keys)

-- the keys that are held after an action
abbrev pub held_after : Action → Keys → List ℕ → Keys
held_after Add S keys = set_after Insert S keys
held_after Drop S keys = set_after Remove S keys
held_after Keep S keys = kept S keys
held_after Flip S keys = flipped S keys
held_after Ask S keys = S
