-- Which cells have a column.
use Rattle.std.specs.Prelude.{◌≡◌, ℕ, ◌<◌, ◌⊎◌, List, length, slice_index}
use Rattle.rh_words.specs.declared.shape.Shape.{Shape}
use Rattle.rh_draw.specs.Changing.{Changes, IsChanged, IsWithin, opening}
use Rattle.rh_draw.specs.declared.records.Record.{Record}
use Rattle.rh_draw.specs.declared.records.Window.{Window}
use Rattle.rh_trace.specs.declared.traced.Traced.{Traced}

-- A flag is 1 where this is so, and 0 where it is not.
abbrev pub Flags : (flag : ℕ) → Type 0 → Type 0
Flags flag P = (P × (flag ≡ 1)) ⊎ (¬ P × (flag ≡ 0))

-- The cells that change in the window have a column, and no others.
abbrev pub ColumnsAreChanges : Shape → (cells : List ℕ) → List Record → Window → (flags : List ℕ) → Type 0
ColumnsAreChanges z cells given window flags =
    (cell : ℕ) → cell < length cells → Flags (slice_index flags cell) (IsChanged z (opening z cells) given window cell)

-- Flags become 1 of the cells that a step of the window changes, and stay of the others.
abbrev pub FlagsStep : Shape → Window → (words : List ℕ) → Traced → (old new : List ℕ) → Type 0
FlagsStep z window words step old new =
    (cell : ℕ) → cell < length old →
    ((IsWithin window step.number × Changes z words step.touched cell) × (slice_index new cell ≡ 1))
    ⊎ (¬ (IsWithin window step.number × Changes z words step.touched cell) × (slice_index new cell ≡ slice_index old cell))
