-- What a wipe and the close of a table leave, where all workers are at rest.
use Rattle.std.specs.Prelude.{◌≡◌, ℕ, Option, Some, None, List, [], map}
use Rattle.rh_tagword.specs.Word.{plain_number}
use Rattle.rh_rule.specs.declared.rule.Sitter.{Sitter}
use Rattle.rh_words.specs.declared.shape.Shape.{Shape}
use Rattle.rh_words.specs.View.{View, Wiping, round_view}
use Rattle.rh_rule.specs.Seats.{AreMade, all_views}

-- A wipe leaves these cells, and each worker as when a round begins with them.
pub record IsWiped (z : Shape) (vs us : List Sitter) : Type 0 where
  pub made : AreMade z vs
  pub views : us ≡ all_views (round_view made.cells) vs

-- The values of the cells are handed out.
pub record Leaves (z : Shape) (vs : List Sitter) (values : List ℕ) : Type 0 where
  pub made : AreMade z vs
  pub values_are : made.cells ≡ map plain_number values

-- ---- in the midst of a wipe

abbrev pub cleared_to : ℕ → Option Wiping → Option Wiping
cleared_to n None = None
cleared_to n (Some w) = Some (record { cells = w.cells; cleared = n })

abbrev pub kept_cells : Option Wiping → List ℕ
kept_cells None = []
kept_cells (Some w) = w.cells

-- so many row words are cleared
abbrev pub with_cleared : ℕ → View → View
with_cleared n v = record v { wiping = cleared_to n v.wiping }

-- a round begins with the cells that the wipe keeps
abbrev pub renewed : View → View
renewed v = round_view (kept_cells v.wiping) v
