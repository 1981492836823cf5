-- What a cell stands for (its logical value), and what an act does to the cells: Harris, Fraser and Pratt 2002.
use Rattle.std.specs.Prelude.{◌≡◌, ◌≢◌, ℕ, zero, suc, ◌<◌, ◌==◌, cond}
use Rattle.rh_world.specs.World.{Ref, Cell, Control, World}
use Rattle.rh_world.specs.World.Cell.{plain, mark, desc}
use Rattle.rh_world.specs.World.Control.{unused, undecided, succeeded, withdrawn, failed}

-- of an entry's old and new value the one that counts under this control
abbrev pub entry_value : Control → (old new : ℕ) → ℕ
entry_value unused old new = old
entry_value undecided old new = old
entry_value succeeded old new = new
entry_value withdrawn old new = old
entry_value (failed e by) old new = old

-- d has an entry for cell c, whose value is v
pub record EntryStandsFor (w : World) (d : Ref) (c : ℕ) (v : ℕ) : Type 0 where
  pub entry : ℕ
  pub within : entry < w.size d
  pub here : w.target d entry ≡ c
  pub value : entry_value (w.control d) (w.old d entry) (w.new d entry) ≡ v

-- cell c stands for v where it holds this: a plain value for itself, a mark for the old value of its entry, and a
-- descriptor for its entry's new value if it succeeded, else for the old one
abbrev pub StandsFor : World → (c : ℕ) → Cell → (v : ℕ) → Type 0
StandsFor w c (plain u) v = u ≡ v
StandsFor w c (mark x) v = w.old (w.mark_desc x) (w.mark_entry x) ≡ v
StandsFor w c (desc d) v = EntryStandsFor w d c v

-- v is the logical value of cell c
abbrev pub IsLogical : World → (c v : ℕ) → Type 0
IsLogical w c v = StandsFor w c (w.cell c) v

-- The act of d takes the logical cells f to g: each entry's cell had the old value and gets the new one, and no
-- other cell changes.
pub record Takes (w : World) (d : Ref) (f g : ℕ → ℕ) : Type 0 where
  pub olds : (e : ℕ) → e < w.size d → f (w.target d e) ≡ w.old d e
  pub news : (e : ℕ) → e < w.size d → g (w.target d e) ≡ w.new d e
  pub rest : (c : ℕ) → ((e : ℕ) → e < w.size d → w.target d e ≢ c) → g c ≡ f c

-- the cells f with the new values of the first n entries of d
abbrev pub changed_by : World → Ref → (n : ℕ) → (f : ℕ → ℕ) → (c : ℕ) → ℕ
changed_by w d zero f c = f c
changed_by w d (suc n) f c = cond (c == w.target d n) (w.new d n) (changed_by w d n f c)
