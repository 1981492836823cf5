-- Seats of several workers.
use Rattle.std.specs.Prelude.{◌≡◌, ℕ, ◌+◌, ◌≤◌, None, List, [], ◌∷◌, ◌++◌, take, drop}
use Rattle.atomic_table.specs.declared.shared.Seat as kept
use Rattle.rh_world.specs.Sides.{AtRest}
use Rattle.rh_rule.specs.declared.rule.Sitter.{Sitter}
use Rattle.rh_words.specs.declared.shape.Shape.{Shape}
use Rattle.rh_words.specs.View.{View, new_view, round_view}
use Rattle.rh_rule.specs.Seats.{NoSlot, Spans}
use Rattle.rh_rule.specs.Sound.{Sound}
use Rattle.rh_shared.specs.declared.seat.Seat.{Seat}
use Rattle.rh_shared.specs.declared.table.Table.{Table}
use Rattle.rh_shared.specs.Rests.{IsRested}

-- the seat is at the table, and its workers are of it
pub record SitsAt (t : Table) (s : Seat) : Type 0 where
  pub own : s.inner.table_id ≡ t.inner.shared.table_id
  pub within : s.side.worker + s.count ≤ t.shape.workers

-- it has all workers
pub record HasAll (t : Table) (s : Seat) : Type 0 where
  pub own : s.inner.table_id ≡ t.inner.shared.table_id
  pub first : s.side.worker ≡ 0
  pub count : s.count ≡ t.shape.workers

-- what the table keeps of that seat: it is of this table, and has a view of each worker and nothing else
pub record IsWholeSeat (t : Table) (s : kept.Seat NoSlot (List Sitter)) : Type 0 where
  pub own : s.table_id ≡ t.inner.shared.table_id
  pub empty : s.me.1 ≡ []
  pub all : Spans s.me.0 0 t.shape.workers

-- what is kept of its workers
abbrev pub views_of : Seat → List Sitter
views_of s = s.inner.me.0

-- what is kept of the first of them
abbrev pub head_of : List Sitter → View
head_of [] = new_view [] 0
head_of (k ∷ ks) = k.view

-- the worker did nothing since the table was made or wiped, but for Claims
abbrev pub IsFresh : View → Type 0
IsFresh v = v ≡ round_view v.opening v

-- it has opened no descriptor and placed no mark
pub record CountsNone (v : View) : Type 0 where
  pub number : v.next_number ≡ 0
  pub control : v.control ≡ 0
  pub marks : v.marks_used ≡ 0

-- the worker used no row since the table was made or wiped, but may have read
pub record UsedNoRow (z : Shape) (v : View) : Type 0 where
  pub still : v.wiping ≡ None
  pub sound : Sound z v
  pub rested : IsRested v
  pub counts : CountsNone v

-- nothing of the worker is open or owed, and no wipe is under way
pub record IsQuiet (v : View) : Type 0 where
  pub still : v.wiping ≡ None
  pub rest : AtRest v.side

-- the workers from this one on have a seat of their own
pub record IsCut (s left right : Seat) (at : ℕ) : Type 0 where
  pub first : left.side.worker ≡ s.side.worker
  pub middle : s.side.worker + left.count ≡ at
  pub second : right.side.worker ≡ at
  pub end : at + right.count ≡ s.side.worker + s.count
  pub unmarked : (left.placed ≡ None) × (right.placed ≡ None)
  pub left_views : views_of left ≡ take left.count (views_of s)
  pub right_views : views_of right ≡ drop left.count (views_of s)

-- one seat has the workers of both
pub record IsJoined (left right both : Seat) : Type 0 where
  pub first : both.side.worker ≡ left.side.worker
  pub count : both.count ≡ left.count + right.count
  pub unmarked : both.placed ≡ None
  pub views : views_of both ≡ views_of left ++ views_of right
