-- One entry of those that a descriptor may have.
use Rattle.std.specs.Prelude.{ℕ, suc, ◌<◌, ◌≡◌, List}
use Rattle.rh_layout.specs.declared.entry.Entry.{Entry}
use Rattle.rh_words.specs.declared.shape.Shape.{Shape}
use Rattle.rh_words.specs.Parts.{cell_count}
use Rattle.rh_words.specs.Steps.{entry_of}
use Rattle.rh_words.specs.Words.{IsPlain}

-- its cell is behind that of the entry before
abbrev pub IsBehind : List Entry → (e : ℕ) → Type 0
IsBehind es e = (before : ℕ) → e ≡ suc before → (entry_of es before).cell < (entry_of es e).cell

-- its cell is one of the table and behind that of the entry before, and its words are plain
pub record Fits (z : Shape) (es : List Entry) (e : ℕ) : Type 0 where
  pub cell : (entry_of es e).cell < cell_count z
  pub old : IsPlain (entry_of es e).old
  pub new : IsPlain (entry_of es e).new
  pub behind : IsBehind es e
