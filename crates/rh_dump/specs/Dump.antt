-- The text of a dump, as a function of the bits and the cells of a table.
use Rattle.std.specs.Prelude.{ℕ, ◌+◌, if◌then◌else◌, List, [], ◌∷◌, ◌++◌, codes, decimal, count_by}
use Rattle.rh_layout.specs.Key.{is_full, key_in}
use Rattle.rh_layout.specs.Order.{dist_of}

-- a cell, its key, and how far the key stands from its home
abbrev pub line_of : (bits cell key : ℕ) → List ℕ
line_of bits cell key = decimal cell ++ (codes " " ++ (decimal key ++ (codes " " ++ (decimal (dist_of bits cell key) ++ codes "\n"))))

-- an empty cell has no line
abbrev pub cell_text : (bits cell value : ℕ) → List ℕ
cell_text bits cell value = if is_full value then line_of bits cell (key_in value) else []

-- the lines of the cells, of which the first has this place
abbrev pub lines_from : (bits cell : ℕ) → List ℕ → List ℕ
lines_from bits cell [] = []
lines_from bits cell (value ∷ values) = cell_text bits cell value ++ lines_from bits (cell + 1) values

abbrev pub head_of : (bits held : ℕ) → List ℕ
head_of bits held = codes "table " ++ (decimal bits ++ (codes " " ++ (decimal held ++ codes "\n")))

unfoldable pub dump_text : ℕ → List ℕ → List ℕ
dump_text bits cells = (head_of bits (count_by is_full cells) ++ lines_from bits 0 cells) ++ codes "end\n"
