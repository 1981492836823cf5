-- The first part of the rule: the descriptors of each worker, and who owes what stands in a cell.
use Rattle.std.specs.Prelude.{suc, ◌≡◌, ℕ, ◌<◌, ◌≤◌, ◌⊎◌, Some}
use Rattle.rh_world.specs.World.{Ref, World, IsOpened, IsDecided, IsUsed, In}
use Rattle.rh_world.specs.World.Cell.{mark, desc}
use Rattle.rh_world.specs.Facts.{Fact, HoldsIn, part_of}
use Rattle.rh_world.specs.Facts.RulePart.{of_rows}
use Rattle.rh_world.specs.Sides.{Side}

-- the descriptors of each worker: their numbers lie below its next one, their cells rise, and all but the open one,
-- which is the last, are decided; an entry was released only after the decision
pub record Opened (w : World) (side : ℕ → Side) : Type 0 where
  pub below : (d : Ref) → IsOpened (w.control d) → d.number < w.next_number d.worker
  pub rising : (d : Ref) (e f : ℕ) → IsOpened (w.control d) → e < f → f < w.size d → w.target d e < w.target d f
  pub state : (d : Ref) → IsOpened (w.control d) → IsDecided (w.control d) ⊎ ((side d.worker).current ≡ Some d.number)
  pub current : (d : Ref) → (side d.worker).current ≡ Some d.number → IsOpened (w.control d)
  pub last : (d f : Ref) → (side d.worker).current ≡ Some d.number → f.worker ≡ d.worker → IsOpened (w.control f) → f.number ≤ d.number
  pub released : (d : Ref) (e : ℕ) → (side d.worker).current ≡ Some d.number → In e (side d.worker).released → IsDecided (w.control d)

-- Entry e of d, whose cell is c, is owed: by its owner until it released it,
pub record ByOwner (side : ℕ → Side) (d : Ref) (e : ℕ) : Type 0 where
  pub current : (side d.worker).current ≡ Some d.number
  pub unreleased : In e (side d.worker).released → ⊥

-- or by a worker whose unsettled mark is for it,
pub record ByPlacer (w : World) (side : ℕ → Side) (d : Ref) (e : ℕ) : Type 0 where
  pub who : Ref
  pub unsettled : (side who.worker).unsettled ≡ Some who.number
  pub mark_desc : w.mark_desc who ≡ d
  pub mark_entry : w.mark_entry who ≡ e

-- or by a worker that settled such a mark and has not paid since.
pub record ByDebt (side : ℕ → Side) (d : Ref) (c : ℕ) : Type 0 where
  pub who : ℕ
  pub debt : In (record { desc = d; cell = c }) (side who).debts

abbrev pub OwesEntry : World → (ℕ → Side) → (d : Ref) → (e c : ℕ) → Type 0
OwesEntry w side d e c = ByOwner side d e ⊎ (ByPlacer w side d e ⊎ ByDebt side d c)

-- a mark that stands in cell c: it was placed there, and its placer has not settled it
pub record MarkInCell (w : World) (side : ℕ → Side) (c : ℕ) (x : Ref) : Type 0 where
  pub used : IsUsed w x
  pub here : w.target (w.mark_desc x) (w.mark_entry x) ≡ c
  pub owed : (side x.worker).unsettled ≡ Some x.number

-- a descriptor that stands in cell c: it was opened, and an entry of it for this cell is owed
pub record DescInCell (w : World) (side : ℕ → Side) (c : ℕ) (d : Ref) : Type 0 where
  pub opened : IsOpened (w.control d)
  pub entry : ℕ
  pub within : entry < w.size d
  pub here : w.target d entry ≡ c
  pub owed : OwesEntry w side d entry c

pub record Owing (w : World) (side : ℕ → Side) : Type 0 where
  pub used : (x : Ref) → IsUsed w x → IsOpened (w.control (w.mark_desc x)) × (w.mark_entry x < w.size (w.mark_desc x))
  -- an unsettled mark is the newest of its worker
  pub unsettled : (x : Ref) → (side x.worker).unsettled ≡ Some x.number → IsUsed w x
  pub newest : (x : Ref) → (side x.worker).unsettled ≡ Some x.number → suc x.number ≡ w.marks_used x.worker
  pub marks : (c : ℕ) (x : Ref) → w.cell c ≡ mark x → MarkInCell w side c x
  pub descs : (c : ℕ) (d : Ref) → w.cell c ≡ desc d → DescInCell w side c d

pub record Rows (w : World) (side : ℕ → Side) : Type 0 where
  pub descriptors : Opened w side
  pub open descriptors use *
  pub owing : Owing w side
  pub open owing use *
  pub facts : (v : ℕ) (n : Fact) → In n (side v).facts → part_of n ≡ of_rows → HoldsIn w n
