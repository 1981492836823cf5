-- A step that is recorded.
use Rattle.std.specs.Prelude.{◌≡◌, ℕ, Option, Some, List, slice_index}
use Rattle.rh_words.specs.declared.shape.Shape.{Shape}
use Rattle.rh_words.specs.Parts.{IsPart, index_of}
use Rattle.rh_words.specs.View.{View}
use Rattle.rh_words.specs.Steps.{Step, StepsTo, index}
use Rattle.rh_recorder.specs.declared.recorder.Touched.{Touched}

-- The step touched this part, which it found so, and left so.
pub record Touches (z : Shape) (s : Step) (words : List ℕ) (v : View) (then : List ℕ) (t : Touched) : Type 0 where
  pub part : IsPart z t.part
  pub word : index_of z t.part ≡ index z v s
  pub found : t.found ≡ slice_index words (index z v s)
  pub left : t.left ≡ slice_index then (index z v s)

-- The step was made between the two, and this was recorded of it.
pub record Records (last : Option Touched) (z : Shape) (s : Step) (words : List ℕ) (v : View) (word : ℕ) (then : List ℕ) (next : View) : Type 0 where
  pub steps : StepsTo z s words v word then next
  pub touched : Touched
  pub recorded : last ≡ Some touched
  pub touches : Touches z s words v then touched
