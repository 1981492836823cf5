-- Acts: each changes the cells of its entries at once, from their old values to their new ones (Harris, Fraser and Pratt
-- 2002). That the acts of several workers stand in one list is this project's.
use Rattle.std.specs.Prelude.{ℕ, ◌<◌, ◌≤◌, ◌≡◌, ◌==◌, List, [], ◌∷◌, length, slice_index, take, set, Bool, not}
use Rattle.std.specs.List.{Contains, AllPairs, list_any}
use Rattle.rh_layout.specs.declared.entry.Entry.{Entry}

abbrev pub entry : (cell old new : ℕ) → Entry
entry c o n = record { cell = c; old = o; new = n }

abbrev pub Act : Type 0
Act = List Entry

-- the entries stand in the order of their cells, and no two are of one cell
abbrev pub IsRising : Act → Type 0
IsRising act = AllPairs (λ x y. x.cell < y.cell) act

-- each entry's cell holds its old value
abbrev pub Meets : (act : Act) (cells : List ℕ) → Type 0
Meets act cells = (e : Entry) → Contains act e → (e.cell < length cells) × (slice_index cells e.cell ≡ e.old)

-- the cells after an act
abbrev pub apply_act : (act : Act) (cells : List ℕ) → List ℕ
apply_act [] cells = cells
apply_act (e ∷ rest) cells = apply_act rest (set cells e.cell e.new)

-- some new value is not the old one
abbrev pub changes : Act → Bool
changes act = list_any (λ e. not (e.old == e.new)) act

-- the cells after the acts, one after the other
abbrev pub apply_acts : (acts : List Act) (cells : List ℕ) → List ℕ
apply_acts [] cells = cells
apply_acts (a ∷ rest) cells = apply_acts rest (apply_act a cells)

-- each act meets the cells that the acts before it leave
abbrev pub AllMeet : (acts : List Act) (cells : List ℕ) → Type 0
AllMeet [] cells = Unit {0}
AllMeet (a ∷ rest) cells = Meets a cells × AllMeet rest (apply_act a cells)

-- after some first n acts the cell held the value
abbrev pub WasWord : (opening : List ℕ) (acts : List Act) (c value : ℕ) → Type 0
WasWord opening acts c value = (n : ℕ) × (n ≤ length acts) × (slice_index (apply_acts (take n acts) opening) c ≡ value)
