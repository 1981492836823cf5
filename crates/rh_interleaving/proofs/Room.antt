-- That a cell stays free.
use Rattle.std.proofs.Common.{◌≡◌, ℕ, ◌+◌, ◌^◌, ◌<◌, ◌≤◌, arith, Bool, true, false, cond, count_by, List, [], ◌∷◌, length}
use Rattle.std.specs.FinSet as set
use Rattle.std.specs.FinSet.{contains}
use Rattle.std.specs.Cmp.{nat_cmp_total}
use Rattle.std.specs.FinSet.{len-insert}
use Rattle.rh_layout.specs.Key.{is_full}
use Rattle.rh_layout.specs.Layout.{IsLayout, Keys, keys_of}
use Rattle.rh_layout.proofs.CountLemmas.{count_of_layout}
use Rattle.rh_ledger.specs.declared.tally.Kind.{Kind}
use Rattle.rh_ledger.specs.declared.tally.Kind.TheVariants.{Insert, Remove, Ask}
use Rattle.rh_ledger.specs.Phase.{most_added, set_after}
use Rattle.rh_acts.specs.Workers.{LeavesRoom}

grows : (S : Keys) (keys : List ℕ) → set.len (set_after Insert S keys) ≤ set.len S + length keys
grows S [] = omega arith
grows S (k ∷ keys) =
    let rest : set.len (set_after Insert (set.insert S k) keys) ≤ set.len (set.insert S k) + length keys = grows (set.insert S k) keys in
    let one : set.len (set.insert S k) ≤ set.len S + 1 = few (contains S k) (len-insert nat_cmp_total S k) in
    omega (arith, rest, one)
  where
    few : (b : Bool) → set.len (set.insert S k) ≡ cond b (set.len S) (set.len S + 1) → set.len (set.insert S k) ≤ set.len S + 1
    few true is = omega (arith, is)
    few false is = omega (arith, is)

pub leaves_room : (kind : Kind) (bits : ℕ) (cells keys : List ℕ) → IsLayout bits cells → count_by is_full cells + most_added kind keys < 2 ^ bits → LeavesRoom kind bits (keys_of cells) keys
leaves_room Insert bits cells keys layout room =
    let most : set.len (set_after Insert (keys_of cells) keys) ≤ set.len (keys_of cells) + length keys = grows (keys_of cells) keys in
    let held : count_by is_full cells ≡ set.len (keys_of cells) = count_of_layout cells bits (keys_of cells) layout in
    omega (arith, most, held, room)
leaves_room Remove bits cells keys layout room = tt
leaves_room Ask bits cells keys layout room = tt
