-- The start, a new round, and runs of steps.
use Rattle.std.specs.Prelude.{ℕ, List, [], ◌∷◌}
use Rattle.rh_world.specs.World.{Ref, World}
use Rattle.rh_world.specs.World.Cell.{plain}
use Rattle.rh_world.specs.World.Control.{unused}
use Rattle.rh_world.specs.Sides.{Side, new_side, AtRest}
use Rattle.rh_world.specs.Moves.{Move, IsAllowed, world_after, sides_after}

abbrev pub no_ref : Ref
no_ref = record { worker = 0; number = 0 }

-- plain cells, no descriptor, no mark, no act
abbrev pub opening_world : (workers keys counter : ℕ) → (opening : ℕ → ℕ) → World
opening_world workers keys counter opening = record {
  cell = λ c. plain (opening c);
  control = λ d. unused;
  size = λ d. 0;
  target = λ d e. 0;
  old = λ d e. 0;
  new = λ d e. 0;
  acts_before = λ d. 0;
  next_number = λ v. 0;
  marks_used = λ v. 0;
  mark_desc = λ x. no_ref;
  mark_entry = λ x. 0;
  act_count = 0;
  act = λ i. no_ref;
  logical = λ n. opening;
  workers = workers;
  keys = keys;
  counter = counter;
}

abbrev pub start_world : (workers keys : ℕ) → (opening : ℕ → ℕ) → World
start_world workers keys opening = opening_world workers keys 0 opening

abbrev pub start_sides : ℕ → Side
start_sides v = new_side

-- A round ends where all are at rest. The next begins with what the cells stand for, on the same counter.
abbrev pub round_world : World → World
round_world w = opening_world w.workers w.keys w.counter (w.logical w.act_count)

-- all is new of a Side but the numbers that its Claims found
abbrev pub round_side : Side → Side
round_side s = record new_side { claims = s.claims }

abbrev pub AllAtRest : (ℕ → Side) → Type 0
AllAtRest side = (v : ℕ) → AtRest (side v)

-- a step of a worker
pub record WorldTurn : Type 0 where
  pub who : ℕ
  pub move : Move

-- a run of allowed steps, one after the other, from one world and its Sides to another
pub data Runs : World → (ℕ → Side) → List WorldTurn → World → (ℕ → Side) → Type 0 where
  rests : {w : World} {side : ℕ → Side} → Runs w side [] w side
  goes : {w v : World} {side then : ℕ → Side} {turns : List WorldTurn} (who : ℕ) (m : Move) → IsAllowed w side who m
      → Runs (world_after w who m) (sides_after w side who m) turns v then → Runs w side (record { who = who; move = m } ∷ turns) v then
