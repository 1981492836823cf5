-- What a command makes of the table that is held and of the keys of its list, and what it has to tell; or that no table is
-- large enough.
use Rattle.std.specs.Prelude.{ℕ, ◌+◌, Bool, List, length, Option, Result, Ok}
use Rattle.std.specs.FinSet as set
use Rattle.rh_layout.specs.Layout.{Keys}
use Rattle.rh_layout.specs.declared.limits.TheConstants.{MIN_BITS}
use Rattle.rh_edit.specs.Held.{Held}
use Rattle.rh_ledger.specs.declared.tally.Kind.TheVariants.{Insert, Remove}
use Rattle.rh_ledger.specs.Phase.{set_after, tally_of, looked_up}
use Rattle.rh_bytes.specs.Input.{◌>>=◌}
use Rattle.rh_runner.specs.declared.chosen.Chosen.TheVariants.{Absent, Present}
use Rattle.rh_runner.specs.Lists.{chosen}
use Rattle.rh_report.specs.declared.lines.Change.{Change}
use Rattle.rh_report.specs.declared.lines.Change.TheVariants.{Added, Dropped, Kept, Flipped}
use Rattle.rh_script.specs.declared.action.Action.{Action}
use Rattle.rh_script.specs.declared.action.Action.TheVariants.{Add, Drop, Keep, Flip, Ask}
use Rattle.rh_operations.specs.declared.done.Done.{Done}
use Rattle.rh_operations.specs.declared.done.Done.TheVariants as done
use Rattle.rh_operations.specs.declared.cause.Cause.{Cause}
use Rattle.rh_operations.specs.Found.{count_again, keys_found, still}
use Rattle.rh_operations.specs.Sets.{flipped, kept}
use Rattle.rh_operations.specs.Size.{size_for}

-- how the held keys changed, or which keys of the list are held
pub data Telling : Type 0 where
  Changed : (change : Change) → Telling
  Asked : (answers : List Bool) → Telling

abbrev pub telling : Done → Telling
telling (done.Changed change) = Changed change
telling (done.Asked answers) = Asked answers.items

abbrev pub CommandResult : Type 0
CommandResult = Result (Held × Telling) Cause

abbrev pub table : (bits : ℕ) → Keys → Held
table bits keys = record { bits = bits; keys = keys }

-- the keys of the list are held too
abbrev pub adds : Held → List ℕ → CommandResult
adds t keys =
    size_for t.bits (set.len t.keys + length keys)
    >>= (λ bits. Ok (table bits (set_after Insert t.keys keys), Changed (Added (tally_of Insert t.keys keys).added)))

-- the keys of the list are held no more
abbrev pub drops : Held → List ℕ → CommandResult
drops t keys = Ok (table t.bits (set_after Remove t.keys keys), Changed (Dropped (tally_of Remove t.keys keys).removed))

-- of the keys that are held, those of the list are kept
abbrev pub keeps : Held → List ℕ → CommandResult
keeps t keys =
    size_for MIN_BITS (length (chosen Present t.keys keys))
    >>= (λ bits. Ok (table bits (kept t.keys keys), Changed (Kept (length (chosen Present t.keys keys)))))

-- the keys of the list that are held are dropped, and the others are added
abbrev pub flips : Held → List ℕ → CommandResult
flips t keys =
    size_for t.bits (set.len (set_after Remove t.keys keys) + length (chosen Absent t.keys keys))
    >>= (λ bits. Ok (table bits (flipped t.keys keys), Changed (Flipped (tally_of Remove t.keys keys).removed (tally_of Insert (set_after Remove t.keys keys) (chosen Absent t.keys keys)).added)))

-- the keys of the list are looked up
abbrev pub asks : Held → List ℕ → CommandResult
asks t keys = Ok (t, Asked (looked_up t.keys keys))

abbrev pub means : Action → Held → List ℕ → CommandResult
means Add t keys = adds t keys
means Drop t keys = drops t keys
means Keep t keys = keeps t keys
means Flip t keys = flips t keys
means Ask t keys = asks t keys

-- ---- what is found, in its order

-- the size that is found before a key is read: `add` counts all keys of its list as new ones
abbrev pub room_for : Action → Held → (count : ℕ) → Result ℕ Cause
room_for Add t count = size_for t.bits (set.len t.keys + count)
room_for _ t count = Ok t.bits

-- of a list of which so many keys were noted, and which has this count
abbrev pub room_at : Action → Held → (noted count : ℕ) → Result ℕ Cause
room_at action t noted count = still noted count >>= room_for action t

-- of one that has these bytes
abbrev pub room_found : Action → Held → (noted : ℕ) → Option (List ℕ) → Result ℕ Cause
room_found action t noted found = count_again noted found >>= room_for action t

-- after that the keys, and what is made of them
abbrev pub made_of : Action → Held → (noted : ℕ) → Option (List ℕ) → CommandResult
made_of action t noted found = room_found action t noted found >>= (λ _. keys_found found >>= means action t)
