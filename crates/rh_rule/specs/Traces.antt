-- The traces that the steps of workers leave, and the one order in which these steps happened on the words of a table.
use Rattle.std.specs.Prelude.{◌≡◌, ◌==◌, cond, ℕ, List, [], ◌∷◌, slice_index, slice_set}
use Rattle.rh_words.specs.declared.shape.Shape.{Shape}
use Rattle.rh_words.specs.View.{View}
use Rattle.rh_words.specs.Steps.{Step, index, word_after}

-- a step that was made: the word of the table that it touched, what it found there and what it left
pub record Touch : Type 0 where
  pub index : ℕ
  pub found : ℕ
  pub left : ℕ

-- a step of a worker of whom this was kept, which found this word
abbrev pub touched : Shape → View → Step → (word : ℕ) → Touch
touched z v s word = record { index = index z v s; found = word; left = word_after v s word }

-- ---- the steps of all workers, newest first

-- a step, and whose it was
pub record Happening : Type 0 where
  pub who : ℕ
  pub touch : Touch

-- the words after these steps
abbrev pub replayed : (start : List ℕ) → List Happening → List ℕ
replayed start [] = start
replayed start (h ∷ hs) = slice_set (replayed start hs) h.touch.index h.touch.left

-- each found the word that stood there
abbrev pub Found : (start : List ℕ) → List Happening → Type 0
Found start [] = Unit {0}
Found start (h ∷ hs) = (h.touch.found ≡ slice_index (replayed start hs) h.touch.index) × Found start hs

-- the steps of a worker among them
abbrev pub steps_of : ℕ → List Happening → List Touch
steps_of v [] = []
steps_of v (h ∷ hs) = cond (v == h.who) (h.touch ∷ steps_of v hs) (steps_of v hs)

-- The steps that the workers made stand in one order, from the words at the start to those now: each found what those before
-- it left, and each worker's trace has just its own of them.
pub record Happened (start words : List ℕ) (traces : ℕ → List Touch) : Type 0 where
  pub history : List Happening
  pub found : Found start history
  pub words_are : words ≡ replayed start history
  pub own : (v : ℕ) → traces v ≡ steps_of v history
