-- What is made of a set by keys.
use Rattle.std.proofs.Common.{◌≡◌, ◌∙◌, ap, sym, Bool, ℕ, ◌+◌, ◌^◌, ◌<◌, arith, List, length, Ok}
use Rattle.std.specs.Prelude.{Result}
use Rattle.std.specs.FinSet as set
use Rattle.std.specs.FinSet.{len-empty}
use Rattle.std.specs.Ordering.{nat_cmp}
use Rattle.rh_edit.specs.Held.{Held}
use Rattle.rh_layout.specs.Layout.{Keys, keys_of}
use Rattle.rh_ledger.specs.declared.tally.Kind.TheVariants.{Insert, Remove}
use Rattle.rh_ledger.specs.declared.tally.Tally.{Tally}
use Rattle.rh_ledger.specs.Phase.{looked_up}
use Rattle.rh_ledger.proofs.PhaseLemmas.{len-insert_all}
use Rattle.rh_bytes.specs.Input.{◌>>=◌}
use Rattle.rh_runner.specs.declared.chosen.Chosen.{Chosen}
use Rattle.rh_runner.specs.Lists.{Ran, chosen}
use Rattle.rh_runner.proofs.SingleLemmas.{len-remove_all}
use Rattle.rh_operations.specs.declared.cause.Cause.{Cause}
use Rattle.rh_operations.specs.Actions.{Telling}

-- ---- a cell is free afterwards

pub free_after_adding : (bits : ℕ) (keys old new : List ℕ) (told : Tally) → Ran Insert bits keys old new told → set.len (keys_of old) + length keys < 2 ^ bits → set.len (keys_of new) < 2 ^ bits
free_after_adding bits keys old new told ran room = rw ran.held (omega (arith, len-insert_all (keys_of old) keys, room))

pub free_after_dropping : (bits : ℕ) (keys old new : List ℕ) (told : Tally) → Ran Remove bits keys old new told → set.len (keys_of old) < 2 ^ bits → set.len (keys_of new) < 2 ^ bits
free_after_dropping bits keys old new told ran room = rw ran.held (omega (arith, len-remove_all (keys_of old) keys, room))

-- ---- a table of a size that was found

-- what is made in a table of the size that was found
pub sized : (size : Result ℕ Cause) (bits : ℕ) (make : ℕ → Held × Telling) (made : Held × Telling) → size ≡ Ok bits → make bits ≡ made → (size >>= (λ b. Ok (make b))) ≡ Ok made
sized size bits make made found is = ap (λ r. r >>= (λ b. Ok (make b))) found ∙ ap (λ (m : Held × Telling). Ok m) is

pub nothing_held : (S : Keys) → S ≡ set.empty → set.len S ≡ 0
nothing_held S is = ap (λ (T : Keys). set.len T) is ∙ len-empty nat_cmp

-- ---- what is chosen of the keys that were looked up

-- of the list as it stands in memory as of the list that was taken
pub chosen_of : (choice : Chosen) (S : Keys) {list keys out : List ℕ} {shown found : List Bool} → list ≡ keys → shown ≡ found → found ≡ looked_up S keys
    → ((T : Keys) → shown ≡ looked_up T list → out ≡ chosen choice T list) → out ≡ chosen choice S keys
chosen_of choice S value shows finds moved = moved S (shows ∙ finds ∙ ap (looked_up S) (sym value)) ∙ ap (chosen choice S) value
