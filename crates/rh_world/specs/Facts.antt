-- What a worker may note: facts that stay true, whatever the other workers do.
use Rattle.std.specs.Prelude.{◌≡◌, ◌≢◌, ℕ, ◌<◌, ◌≤◌}
use Rattle.rh_world.specs.World.{Ref, Control, World, IsOpened, IsDecided, HasFailed, IsUsed}
use Rattle.rh_world.specs.World.Cell.{mark, desc}
use Rattle.rh_world.specs.World.Control.{undecided, succeeded}

pub data Fact : Type 0 where
  -- of a descriptor: it was met in a cell; it was opened by the worker, or its control was read as undecided; how many entries
  -- it has; the cell, the old and the new value of an entry; how it was decided
  met known : Ref → Fact
  size_is : Ref → ℕ → Fact
  target_is old_is new_is : Ref → ℕ → ℕ → Fact
  decided : Ref → Control → Fact
  -- that it was decided, and not how; that it is stale: its owner opened a later one, so that it stands in no cell if it
  -- succeeded; at which entry it failed
  over stale : Ref → Fact
  failed_at : Ref → ℕ → Fact
  -- of a mark: its descriptor; its entry; the cell where it was found
  desc_is : Ref → Ref → Fact
  which_is : Ref → ℕ → Fact
  found : Ref → ℕ → Fact
  -- what may be done with a mark that was found in a cell: swapped to its descriptor, or back to the old value
  may_promote : Ref → ℕ → Fact
  may_demote : Ref → Fact
  -- of an entry of a descriptor: its cell was seen to hold the descriptor; it did not hold the old value after n acts
  installed : Ref → ℕ → Fact
  mismatch : Ref → ℕ → ℕ → Fact

-- The first n acts are a prefix for number p of worker v: the acts of v among them are exactly those of its
-- descriptors below p.
pub record IsPrefix (w : World) (v p n : ℕ) : Type 0 where
  pub within : n ≤ w.act_count
  pub low : (i : ℕ) → i < n → (w.act i).worker ≡ v → (w.act i).number < p
  pub high : (i : ℕ) → n ≤ i → i < w.act_count → (w.act i).worker ≡ v → p ≤ (w.act i).number

-- After the first n acts entry e of d, which has that entry, does not hold its old value. They are a prefix for d, and were
-- not fewer when it was opened.
pub record IsMismatch (w : World) (d : Ref) (e n : ℕ) : Type 0 where
  pub within : e < w.size d
  pub prefix : IsPrefix w d.worker d.number n
  pub acts_before : w.acts_before d ≤ n
  pub differs : w.logical n (w.target d e) ≢ w.old d e

-- The fact holds in the world. While a mark stands in the cell of an entry of d, d does not stand there, so d cannot
-- succeed: that is why a mark may be promoted however late, if d was undecided after the mark was found.
abbrev pub HoldsIn : World → Fact → Type 0
HoldsIn w (met d) = IsOpened (w.control d)
HoldsIn w (known d) = IsOpened (w.control d)
HoldsIn w (size_is d n) = IsOpened (w.control d) × (w.size d ≡ n)
HoldsIn w (target_is d e c) = IsOpened (w.control d) × (w.target d e ≡ c)
HoldsIn w (old_is d e u) = IsOpened (w.control d) × (w.old d e ≡ u)
HoldsIn w (new_is d e u) = IsOpened (w.control d) × (w.new d e ≡ u)
HoldsIn w (decided d k) = IsDecided k × (w.control d ≡ k)
HoldsIn w (over d) = IsDecided (w.control d)
HoldsIn w (stale d) = IsDecided (w.control d) × (w.control d ≡ succeeded → (c : ℕ) → w.cell c ≢ desc d)
HoldsIn w (failed_at d e) = HasFailed w d e
HoldsIn w (desc_is x d) = IsUsed w x × (w.mark_desc x ≡ d)
HoldsIn w (which_is x e) = IsUsed w x × (w.mark_entry x ≡ e)
HoldsIn w (found x c) = IsUsed w x × (w.target (w.mark_desc x) (w.mark_entry x) ≡ c)
HoldsIn w (may_promote x c) = IsUsed w x × (w.cell c ≡ mark x → w.control (w.mark_desc x) ≢ succeeded)
HoldsIn w (may_demote x) = IsUsed w x × IsDecided (w.control (w.mark_desc x))
HoldsIn w (installed d e) = IsOpened (w.control d) × (w.control d ≡ undecided → w.cell (w.target d e) ≡ desc d)
HoldsIn w (mismatch d e n) = IsOpened (w.control d) × (w.control d ≡ undecided → IsMismatch w d e n)

-- which part of the rule says that the fact holds
-- Each fact belongs to one part, so that each part is kept by the parts before it alone.
pub data RulePart : Type 0 where
  of_rows of_acts of_prefixes : RulePart

abbrev pub part_of : Fact → RulePart
part_of (met d) = of_rows
part_of (known d) = of_rows
part_of (size_is d n) = of_rows
part_of (target_is d e c) = of_rows
part_of (old_is d e u) = of_rows
part_of (new_is d e u) = of_rows
part_of (decided d k) = of_rows
part_of (over d) = of_rows
part_of (stale d) = of_acts
part_of (failed_at d e) = of_rows
part_of (desc_is x d) = of_rows
part_of (which_is x e) = of_rows
part_of (found x c) = of_rows
part_of (may_promote x c) = of_acts
part_of (may_demote x) = of_rows
part_of (installed d e) = of_acts
part_of (mismatch d e n) = of_prefixes
