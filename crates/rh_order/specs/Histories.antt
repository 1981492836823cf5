-- What the rule of a table says of the list of its acts.
use Rattle.std.specs.Prelude.{ℕ, ◌≡◌, ◌<◌, ◌≤◌, None, List, [], ◌++◌, length, slice_index}
use Rattle.std.specs.List.{Contains}
use Rattle.rh_tagword.specs.Word.{plain_number}
use Rattle.rh_world.specs.World.{World, In}
use Rattle.rh_words.specs.declared.shape.Shape.{Shape}
use Rattle.rh_words.specs.Parts.{cell_count}
use Rattle.rh_words.specs.View.{OwnDesc, View}
use Rattle.rh_words.specs.Words.{IsPlain}
use Rattle.rh_rule.specs.Core.{Core}
use Rattle.rh_rule.specs.Rest.{AllRest}
use Rattle.rh_acts.specs.Act.{Act, AllMeet, apply_acts}
use Rattle.rh_acts.specs.Done.{WereTrue}
use Rattle.rh_acts.specs.Workers.{Made, acts_of, own, AreOf}
use Rattle.rh_order.specs.History.{value_of, act_of, history, opening_cells, logical_cells, kept_of, own_acts_of, succeeded_acts}

-- The acts meet their old values one after the other, from the opening cells to what the cells stand for now. Each is of a
-- worker of the table, with the entries of a descriptor that it opened, and what was read of a cell was true.
pub record HistorySpec (w : World) (z : Shape) (keep : ℕ → View) : Type 0 where
  pub meet : AllMeet (acts_of (history w)) (opening_cells w z)
  pub cells : logical_cells w z ≡ apply_acts (acts_of (history w)) (opening_cells w z)
  pub size : length (opening_cells w z) ≡ cell_count z
  pub workers : AreOf z.workers (history w)
  pub opened : (m : Made) → Contains (history w) m → (o : OwnDesc) × In o (keep m.worker).opened × (m.act ≡ act_of o.entries)
  pub opening : (v c : ℕ) → v < z.workers → c < cell_count z → slice_index (opening_cells w z) c ≡ value_of (slice_index (keep v).opening c)
  pub reads : (v : ℕ) → v < z.workers → WereTrue (opening_cells w z) (acts_of (history w)) (kept_of z (keep v))

abbrev pub ActsHappened : Type 0
ActsHappened = (w : World) (z : Shape) (words : List ℕ) (keep : ℕ → View) → Core w z words keep → HistorySpec w z keep

-- The own acts of a worker are its descriptors that succeeded, in the order in which it opened them. First come those that it
-- has finished, and then one more at most, which it has open.
pub record OwnActsSpec (w : World) (v : ℕ) (k : View) : Type 0 where
  pub succeeded : own v (history w) ≡ succeeded_acts w k
  pub later : List Act
  pub finished : own v (history w) ≡ own_acts_of k ++ later
  pub one : length later ≤ 1
  pub closed : k.side.current ≡ None → later ≡ []

abbrev pub OwnSoFar : Type 0
OwnSoFar = (w : World) (z : Shape) (words : List ℕ) (keep : ℕ → View) (v : ℕ) → Core w z words keep → v < z.workers → OwnActsSpec w v (keep v)

-- Where all workers are at rest, the own acts of each are those that it has finished, and the cells hold what all acts leave.
pub record RestSpec (w : World) (z : Shape) (words : List ℕ) (keep : ℕ → View) : Type 0 where
  pub acts : (v : ℕ) → v < z.workers → own v (history w) ≡ own_acts_of (keep v)
  pub size : length (logical_cells w z) ≡ cell_count z
  pub cells : (c : ℕ) → c < cell_count z → value_of (slice_index words c) ≡ slice_index (logical_cells w z) c

abbrev pub Ended : Type 0
Ended = (w : World) (z : Shape) (words : List ℕ) (keep : ℕ → View) → Core w z words keep → AllRest z keep → RestSpec w z words keep

-- Plain words and what cells hold are one to one.
abbrev pub PlainWords : Type 0
PlainWords = ((value : ℕ) → value_of (plain_number value) ≡ value) × ((word : ℕ) → IsPlain word → plain_number (value_of word) ≡ word)
