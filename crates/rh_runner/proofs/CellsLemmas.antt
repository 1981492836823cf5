-- A phase that has room for its keys leaves a cell free, so that its cells are the only ones.
use Rattle.std.proofs.Common.{◌≡◌, ℕ, ◌+◌, ◌^◌, ◌<◌, ◌≤◌, sym, arith, List, [], ◌∷◌}
use Rattle.std.specs.FinSet as set
use Rattle.rh_layout.specs.Layout.{IsLayout, Keys, Layout, keys_of}
use Rattle.rh_layout.proofs.CountLemmas.{free_from_len}
use Rattle.rh_layout.proofs.LayoutLemmas.{with_same_keys}
use Rattle.rh_layout.proofs.OneLayout.{one_layout_of}
use Rattle.rh_ledger.specs.declared.tally.Kind.{Kind}
use Rattle.rh_ledger.specs.declared.tally.Kind.TheVariants.{Insert, Remove, Ask}
use Rattle.rh_ledger.specs.Phase.{most_added, set_after}
use Rattle.rh_ledger.proofs.PhaseLemmas.{len-insert_all}
use Rattle.rh_runner.specs.Cells.{AreTheCells}
use Rattle.rh_runner.proofs.SingleLemmas.{len-remove_all}

-- a layout with a free cell is the only one of its keys
only_layout : (bits : ℕ) (S : Keys) (cells : List ℕ) → Layout cells bits S → set.len S < 2 ^ bits → AreTheCells bits S cells
only_layout bits S cells layout room = record {
  layout = layout;
  only = λ other is. sym (one_layout_of cells other bits S layout is (free_from_len cells bits S layout room));
}

len-set_after : (kind : Kind) (S : Keys) (keys : List ℕ) → set.len (set_after kind S keys) ≤ set.len S + most_added kind keys
len-set_after Insert S keys = len-insert_all S keys
len-set_after Remove S keys = omega (arith, len-remove_all S keys)
len-set_after Ask S [] = omega arith
len-set_after Ask S (k ∷ keys) = len-set_after Ask S keys

pub only_cells : (kind : Kind) (bits : ℕ) (keys old new : List ℕ) → IsLayout bits new → keys_of new ≡ set_after kind (keys_of old) keys
    → set.len (keys_of old) + most_added kind keys < 2 ^ bits → AreTheCells bits (set_after kind (keys_of old) keys) new
only_cells kind bits keys old new layout same room =
    only_layout bits (set_after kind (keys_of old) keys) new (with_same_keys new bits (set_after kind (keys_of old) keys) layout same) (omega (arith, len-set_after kind (keys_of old) keys, room))
