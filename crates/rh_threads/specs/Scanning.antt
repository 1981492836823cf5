-- How far a scan from a key's home on has to go.
use Rattle.std.specs.Prelude.{◌≡◌, ℕ, ◌^◌, ◌<◌, ◌≤◌, Bool, true, false, List, length, slice_index}
use Rattle.rh_layout.specs.Round.{cell_ahead}
use Rattle.rh_layout.specs.Key.{cell_of}
use Rattle.rh_layout.specs.Order.{Beats, home_of}
use Rattle.rh_ledger.specs.declared.tally.Kind.{Kind}
use Rattle.rh_ledger.specs.declared.tally.Kind.TheVariants.{Insert, Remove, Ask}
use Rattle.rh_probe.specs.Look.{Finds}
use Rattle.rh_probe.specs.Segment.{IsAway}
use Rattle.rh_probe.specs.declared.answer.Look.TheVariants as look

-- Cell c, which holds this value, decides nothing: it shows a key that beats k there. Where the cells before it show the key's place,
-- it does not end what has to move: for an insertion it is not empty, for a removal its key is not at home.
abbrev pub IsPassed : (is_placed : Bool) → Kind → (b k c value : ℕ) → Type 0
IsPassed false kind b k c value = (j : ℕ) × (value ≡ cell_of j) × Beats b c j k
IsPassed true Insert b k c value = 0 < value
IsPassed true Remove b k c value = IsAway b c value
IsPassed true Ask b k c value = ⊥

-- the cells from the key's home on that were seen decide nothing, and show its place or do not
abbrev pub AllArePassed : (is_placed : Bool) → Kind → (b k : ℕ) → (seen : List ℕ) → Type 0
AllArePassed false kind b k seen = Finds b k seen look.More
AllArePassed true Insert b k seen = (i : ℕ) × Finds b k seen (look.Goes i) × ((p : ℕ) → i ≤ p → p < length seen → 0 < slice_index seen p)
AllArePassed true Remove b k seen = (i : ℕ) × Finds b k seen (look.Here i)
    × ((p : ℕ) → i < p → p < length seen → IsAway b (cell_ahead (2 ^ b) (home_of b k) p) (slice_index seen p))
AllArePassed true Ask b k seen = ⊥
