-- A worker's seat at a table that threads share.
use Rattle.std.specs.Prelude.{◌≡◌, ℕ, ◌<◌, List, [], ◌∷◌}
use Rattle.atomic_table.specs.Table.{Me}
use Rattle.rh_words.specs.Parts.{word_count}
use Rattle.rh_words.specs.Steps.{Allowed, Step, index, noted, word_after}
use Rattle.rh_words.specs.declared.shape.Shape.{Shape}
use Rattle.rh_words.specs.View.{View}
use Rattle.rh_rule.specs.declared.rule.Sitter.{Sitter}
use Rattle.rh_rule.specs.Seats.{NoSlot, sitter}
use Rattle.rh_rule.specs.Rest.{RuleTells}
use Rattle.rh_rule.specs.Sound.{Finds, Sound}
use Rattle.rh_rule.specs.Traces.{Touch, touched}
use Rattle.rh_carrier.specs.Relies.{Trusts}
use Rattle.rh_shared.specs.declared.on_table.OnTable.{OnTable}
use Rattle.rh_shared.specs.Traces.{trace_in}

-- the steps that the seat made in this round, the newest first
abbrev pub trace_at : OnTable → List Touch
trace_at t = trace_in t.seat.now.me.0

-- the seat is at the table, which has this shape, and its view is what is kept of the worker
pub record Sits (z : Shape) (t : OnTable) (v : View) : Type 0 where
  pub shape : t.table.now.shape ≡ z
  pub own : t.seat.now.table_id ≡ t.table.now.inner.shared.table_id
  pub view : t.seat.now.me ≡ (sitter v (trace_at t) ∷ [], [])

-- it is the same seat at the same table, lent by the same borrow
-- (So a loop over a lent seat needs no fact of the table but that it is the same.)
pub record Stays (t then : OnTable) : Type 0 where
  pub table : then.table ≡ t.table
  pub seat : then.seat.now.table_id ≡ t.seat.now.table_id
  pub id : then.seat.now.id ≡ t.seat.now.id
  pub lent : then.seat ≡ record t.seat { now = then.seat.now }

-- and what is kept of its worker is so of the words too
pub record StaysTrusted (z : Shape) (t then : OnTable) (next : View) : Type 0 where
  pub stays : Stays t then
  pub open stays use *
  pub trusts : Trusts Sits z then next
  pub open trusts use *

-- it is the same seat, and it made just this step, which found this word, and the rule tells what was so then
pub record SeatSteps (z : Shape) (s : Step) (t : OnTable) (v : View) (word : ℕ) (then : OnTable) (next : View) : Type 0 where
  pub stays : Stays t then
  pub open stays use *
  pub trace : trace_at then ≡ touched z v s word ∷ trace_at t
  pub rule_tells : RuleTells z next

-- what a step tells the seat
pub record Tells (z : Shape) (v : View) (s : Step) (was : Me NoSlot (List Sitter)) (word : ℕ) (me : Me NoSlot (List Sitter)) : Type 0 where
  pub view : me ≡ (sitter (noted z v s word) (trace_in me.0) ∷ [], [])
  pub trace : trace_in me.0 ≡ touched z v s word ∷ trace_in was.0
  pub finds : Finds z v s word
  pub sound : Sound z (noted z v s word)
  pub rule_tells : RuleTells z (noted z v s word)

-- what a look tells it, which is no step
pub record Looks (z : Shape) (v : View) (s : Step) (was : Me NoSlot (List Sitter)) (word : ℕ) (me : Me NoSlot (List Sitter)) : Type 0 where
  pub view : me ≡ was
  pub finds : Finds z v s word

abbrev pub IsReading : Step → Type 0
IsReading (Step.writes p u) = ⊥
IsReading (Step.opens size) = ⊥
IsReading (Step.reads r) = Unit {0}
IsReading (Step.places d e c old) = ⊥
IsReading (Step.settles x c d e old) = ⊥
IsReading (Step.decides d k) = ⊥
IsReading (Step.releases d e c k value) = ⊥
IsReading Step.claims = ⊥

-- the step, which touches this word and makes of it what f says, is ready to be made
pub record Ready (t : OnTable) (z : Shape) (v : View) (s : Step) (at : ℕ) (f : ℕ → ℕ) : Type 0 where
  pub sits : Sits z t v
  pub allowed : Allowed z v s
  pub index : at ≡ index z v s
  pub within : at < word_count z
  pub effect : (n : ℕ) → f n ≡ word_after v s n
