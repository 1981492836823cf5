-- The start of a table, and a wipe, by which a new round begins: it sets all row words to 0, one by one. From its start to
-- its end the rule says only that the cells are plain and are those of its start, and that so many row words are cleared.
use Rattle.std.specs.Prelude.{◌≡◌, ℕ, ◌+◌, ◌*◌, ◌<◌, ◌≤◌, ◌⊎◌, Some, List, [], ◌++◌, length, replicate, slice_index, slice_set}
use Rattle.rh_world.specs.World.{World}
use Rattle.rh_world.specs.Sides.{new_side}
use Rattle.rh_world.specs.Claims.{Claims}
use Rattle.rh_world.specs.Ends.{opening_world}
use Rattle.rh_words.specs.declared.shape.Shape.{Shape}
use Rattle.rh_words.specs.declared.shape.Part.TheVariants as part
use Rattle.rh_words.specs.Parts.{cell_count, row_count, word_count}
use Rattle.rh_words.specs.View.{View, new_view, round_view}
use Rattle.rh_words.specs.Words.{IsPlain}
use Rattle.rh_rule.specs.Represents.{word_at}
use Rattle.rh_rule.specs.Core.{Core, Ruled}
use Rattle.rh_rule.specs.Rest.{AllRest}

-- how many row words the table has
abbrev pub row_total : Shape → ℕ
row_total z = z.workers * row_count z

-- what is kept of a worker during a wipe of a table with these cells that has cleared so many row words
abbrev pub wiping_view : (cells : List ℕ) → (cleared : ℕ) → View → View
wiping_view cells cleared v = record v { wiping = Some (record { cells = cells; cleared = cleared }) }

-- all workers are in the midst of it
abbrev pub AreWiping : Shape → (ℕ → View) → (cells : List ℕ) → (cleared : ℕ) → Type 0
AreWiping z keep cells cleared = (v : ℕ) → v < z.workers → (keep v).wiping ≡ Some (record { cells = cells; cleared = cleared })

-- the numbers that the workers' Claims found are shared out, during a wipe too
pub record ShareOut (z : Shape) (words : List ℕ) (keep : ℕ → View) : Type 0 where
  pub claims : ℕ → List ℕ
  pub kept : (v : ℕ) → v < z.workers → (keep v).side.claims ≡ claims v
  pub share : Claims (opening_world z.workers z.keys (word_at z words part.Counter) (λ c. 0)) (λ v. record new_side { claims = claims v })
  pub beyond : (v : ℕ) → z.workers ≤ v → claims v ≡ []

-- That row words are 0 is said while the wipe is under way: that the cells are kept would not give the whole rule back at its
-- end. A wipe reads no cell, since one step may note what all of them are.
pub record Wiped (z : Shape) (words : List ℕ) (keep : ℕ → View) : Type 0 where
  pub cells : List ℕ
  pub cleared : ℕ
  pub sized : length words ≡ word_count z
  pub worker : (v : ℕ) → v < z.workers → (keep v).worker ≡ v
  pub wiping : AreWiping z keep cells cleared
  pub same : (c : ℕ) → c < cell_count z → slice_index words c ≡ slice_index cells c
  pub plain : (c : ℕ) → c < cell_count z → IsPlain (slice_index words c)
  pub zeros : (i : ℕ) → i < cleared → slice_index words (cell_count z + i) ≡ 0
  pub shared : ShareOut z words keep

-- the words with which a round began: the cells that each worker keeps as its opening ones, and rows that were unused
pub record RoundBegins (z : Shape) (words : List ℕ) (keep : ℕ → View) : Type 0 where
  pub sized : length words ≡ word_count z
  pub cells : (v c : ℕ) → v < z.workers → c < cell_count z → slice_index words c ≡ slice_index (keep v).opening c
  pub rows : (i : ℕ) → i < row_total z → slice_index words (cell_count z + i) ≡ 0

-- the rule of a table
abbrev pub Rules : Shape → List ℕ → (ℕ → View) → Type 0
Rules z words keep = Ruled z words keep ⊎ Wiped z words keep

-- A wipe begins where all are at rest, with the cells that the table has.
abbrev pub WipeBegins : Type 0
WipeBegins = (w : World) (z : Shape) (words cells : List ℕ) (keep : ℕ → View) → AllRest z keep → Core w z words keep
    → ((c : ℕ) → c < cell_count z → slice_index words c ≡ slice_index cells c) → Wiped z words (λ v. wiping_view cells 0 (keep v))

-- It clears the next row word.
abbrev pub WipeStores : Type 0
WipeStores = (z : Shape) (words cells : List ℕ) (keep : ℕ → View) (n : ℕ) → n < row_total z
    → AreWiping z keep cells n → Rules z words keep
    → Wiped z (slice_set words (cell_count z + n) 0) (λ v. wiping_view cells (n + 1) (keep v))

-- It ends where all row words are cleared: a round begins with the cells.
abbrev pub WipeEnds : Type 0
WipeEnds = (z : Shape) (words cells : List ℕ) (keep : ℕ → View) → AreWiping z keep cells (row_total z)
    → Rules z words keep → Ruled z words (λ v. round_view cells (keep v))

-- A table starts with plain cells and no word but theirs.
abbrev pub TableStarts : Type 0
TableStarts = (z : Shape) (cells : List ℕ) → length cells ≡ cell_count z
    → ((c : ℕ) → c < cell_count z → IsPlain (slice_index cells c))
    → Ruled z (cells ++ replicate (row_total z + 1) 0) (new_view cells)
