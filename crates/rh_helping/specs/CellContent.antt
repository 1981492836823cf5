-- What stands in a cell, and what a control tells of a descriptor.
use Rattle.std.specs.Prelude.{ℕ, ◌==◌, cond, Option, Some, None}
use Rattle.rh_world.specs.World.{Cell, Control}
use Rattle.rh_world.specs.World.Cell.{plain, mark, desc}
use Rattle.rh_words.specs.Words.{read_control, ref_of, serial_in}
use Rattle.rh_helping.specs.declared.reading.CellContent.{CellContent}
use Rattle.rh_helping.specs.declared.reading.CellContent.TheVariants as met

-- of this word
abbrev pub cell_met : CellContent → (word : ℕ) → Cell
cell_met met.Value word = plain word
cell_met (met.Mark x) word = mark (ref_of x)
cell_met (met.Desc d) word = desc (ref_of d)

-- of its worker's descriptor with this number: none where the control is of a later one
abbrev pub state_said : (number word : ℕ) → Option Control
state_said number word = cond (serial_in word == number) (Some (read_control word)) None
