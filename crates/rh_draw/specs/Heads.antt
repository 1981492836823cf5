-- The lines of the title, and the heads of lanes and columns.
use Rattle.std.specs.Prelude.{ℕ, zero, suc, ◌==◌, if◌then◌else◌, List, [], ◌∷◌, ◌++◌, codes, decimal, length, slice_index, Vec}
use Rattle.std.specs.Global.{Global}
use Rattle.std.specs.List.{flat_map}

abbrev pub title_lines : List (Vec ℕ Global) → List (List ℕ)
title_lines title = flat_map (λ line. line.items ∷ []) title

-- the lists for the numbers below a bound, one after the other
abbrev pub below : {X : Type 0} → (ℕ → List X) → ℕ → List X
below list zero = []
below list (suc n) = below list n ++ list n

abbrev pub lane_head : (worker : ℕ) → List (List ℕ)
lane_head worker = (codes "worker " ++ decimal worker) ∷ []

-- of a cell that has a column
abbrev pub column_head : (flags : List ℕ) → (cell : ℕ) → List (List ℕ)
column_head flags cell = if slice_index flags cell == 0 then [] else (codes "cell " ++ decimal cell) ∷ []

-- one for each worker, and one for each cell whose flag is not 0
abbrev pub head_row : (workers : ℕ) → (flags : List ℕ) → List (List ℕ)
head_row workers flags = below lane_head workers ++ below (column_head flags) (length flags)

-- so many times
abbrev pub repeated : {X : Type 0} → List X → ℕ → List X
repeated list n = below (λ time. list) n
