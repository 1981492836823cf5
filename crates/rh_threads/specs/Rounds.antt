-- How far the workers of a phase have come, over its rounds, and what they made.
use Rattle.std.specs.Prelude.{◌≡◌, ℕ, ◌+◌, ◌<◌, ◌||◌, Bool, false, All, List, [], ◌∷◌, length, slice_index_or}
use Rattle.rh_ledger.specs.declared.tally.Kind.{Kind}
use Rattle.rh_acts.specs.Workers.{own}
use Rattle.rh_rule.specs.declared.rule.Sitter.{Sitter}
use Rattle.rh_words.specs.declared.shape.Shape.{Shape}
use Rattle.rh_words.specs.View.{View}
use Rattle.rh_shared.specs.Crews.{HasAll, IsQuiet, views_of}
use Rattle.rh_shared.specs.declared.table.Table.{Table}
use Rattle.rh_rule.specs.Seats.{InView}
use Rattle.rh_order.specs.Run.{Run, RunInvariant}
use Rattle.rh_threads.specs.Crew.{IsCrew}
use Rattle.rh_threads.specs.Hands.{AllStand, IsFinished, Past}
use Rattle.rh_threads.specs.declared.crew.Crew.{Crew}
use Rattle.rh_threads.specs.declared.hand.Hand.{Hand}

-- The setting of a phase: its kind, the cells from which it starts, the list that all workers share, and how many positions of
-- that may be marked.
pub record Setting : Type 0 where
  pub kind : Kind
  pub shape : Shape
  pub opening : List ℕ
  pub keys : List ℕ
  pub positions : ℕ

-- at this table, with this list
abbrev pub at_table : Table → (keys : List ℕ) → Setting → Setting
at_table t keys ph = record ph { shape = t.shape; keys = keys }

-- its run, where each worker has the list
abbrev pub run_of : Setting → (words : List ℕ) (keep : ℕ → View) (done : ℕ → List ℕ) (answers : ℕ → List Bool) → Run
run_of ph words keep done answers = record {
  kind = ph.kind;
  shape = ph.shape;
  opening = ph.opening;
  words = words;
  keep = keep;
  keys = λ v. ph.keys;
  done = done;
  answers = answers;
}

-- what a run has of its rounds before this one
abbrev pub past_of : {r : Run} → (positions : ℕ) → RunInvariant r → (v : ℕ) → Past
past_of {r = r} positions run v = record { kind = r.kind; positions = positions; opening = (r.keep v).opening; acts = own v run.before; reads = run.reads v }

-- At the start of the round there was a run of this phase. From it on each worker has come as far as its hand says.
pub record Comes (ph : Setting) (vs : List Sitter) (hs : List Hand) : Type 0 where
  pub words : List ℕ
  pub keep : ℕ → View
  pub done : ℕ → List ℕ
  pub answers : ℕ → List Bool
  pub run : RunInvariant (run_of ph words keep done answers)
  pub stands : AllStand ph.shape ph.keys (past_of ph.positions run) vs hs

-- all workers of the table are at rest; they have done all keys that they claimed, and found the end of the list
pub record AreDone (t : Table) (keys : List ℕ) (c : Crew) : Type 0 where
  pub crew : IsCrew t keys c
  pub all : HasAll t c.seat
  pub quiet : InView IsQuiet (views_of c.seat)
  pub finished : All IsFinished c.hands

-- They came so far from where they were.
pub record HaveDone (t : Table) (keys : List ℕ) (c then : Crew) : Type 0 where
  pub done : AreDone t keys then
  pub comes : (ph : Setting) → Comes (at_table t keys ph) (views_of c.seat) c.hands → Comes (at_table t keys ph) (views_of then.seat) then.hands

-- ---- what all hands say

-- how many keys were added, removed or found
abbrev pub all_changed : List Hand → ℕ
all_changed [] = 0
all_changed (h ∷ hs) = h.changed + all_changed hs

-- whether one of them has marked the position
abbrev pub is_marked : List Hand → (position : ℕ) → Bool
is_marked [] p = false
is_marked (h ∷ hs) p = slice_index_or h.found.items p false || is_marked hs p

-- a position is marked now where it was, or where this says so
pub record AddsMarks (says : ℕ → Bool) (old new : List Bool) : Type 0 where
  pub long : length new ≡ length old
  pub marked : (p : ℕ) → p < length old → slice_index_or new p false ≡ (slice_index_or old p false || says p)
