-- What a scan from a key's home on leads to.
use Rattle.std.specs.Prelude.{ℕ, ◌^◌, ◌<◌, ◌≤◌, ◌⊎◌, List, length, slice_index, take}
use Rattle.rh_layout.specs.Key.{IsBits, IsKey}
use Rattle.rh_layout.specs.Round.{cell_ahead}
use Rattle.rh_layout.specs.Order.{home_of}
use Rattle.rh_probe.specs.Look.{Finds}
use Rattle.rh_probe.specs.Segment.{IsAway}
use Rattle.rh_probe.specs.declared.answer.Look.TheVariants as look
use Rattle.rh_acts.specs.Act.{Act}
use Rattle.rh_acts.specs.KeyActs.{PutsIn, TakesOut, ShowsAbsent}
use Rattle.rh_acts.specs.declared.answer.Insertion.{Insertion}
use Rattle.rh_acts.specs.declared.answer.Insertion.TheVariants as insertion
use Rattle.rh_acts.specs.declared.answer.Removal.{Removal}
use Rattle.rh_acts.specs.declared.answer.Removal.TheVariants as removal

-- The key's act can be written from what was seen: no more than the table's cells, with room for an entry of each.
pub record CanAct (b k : ℕ) (seen : List ℕ) (entries : Act) : Type 0 where
  pub bits : IsBits b
  pub key : IsKey k
  pub within : length seen ≤ 2 ^ b
  pub room : length seen ≤ length entries

-- The key is there, or the first n entries put it into the first n offsets, or no offset shows where it goes, or none from
-- there on is empty.
abbrev pub Inserts : (b k : ℕ) (seen : List ℕ) (entries : Act) → Insertion → Type 0
Inserts b k seen entries insertion.Held = (i : ℕ) × Finds b k seen (look.Here i)
Inserts b k seen entries (insertion.PutsIn n) = (n ≤ length seen) × PutsIn b k (take n seen) (take n entries)
Inserts b k seen entries insertion.More = Finds b k seen look.More
    ⊎ ((i : ℕ) × Finds b k seen (look.Goes i) × ((p : ℕ) → i ≤ p → p < length seen → 0 < slice_index seen p))

-- The first n entries take the key out of the first n offsets, or show that it is not there, or no offset decides, or what
-- stands behind the key can all move back.
abbrev pub Removes : (b k : ℕ) (seen : List ℕ) (entries : Act) → Removal → Type 0
Removes b k seen entries (removal.TakesOut n) = (n ≤ length seen) × TakesOut b k (take n seen) (take n entries)
Removes b k seen entries (removal.ShowsAbsent n) = (n ≤ length seen) × ShowsAbsent b k (take n seen) (take n entries)
Removes b k seen entries removal.More = Finds b k seen look.More
    ⊎ ((i : ℕ) × Finds b k seen (look.Here i)
    × ((p : ℕ) → i < p → p < length seen → IsAway b (cell_ahead (2 ^ b) (home_of b k) p) (slice_index seen p)))
