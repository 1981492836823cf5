-- Workers of a phase with their seat, who fork in halves and join again.
use Rattle.std.specs.Prelude.{◌≡◌, ℕ, ◌+◌, ◌<◌, true, false, min, List, All, Bool, length, take, drop, Result, Ok, Err}
use Rattle.rh_bytes.specs.Counting.{last_count}
use Rattle.rh_layout.specs.Key.{IsKey}
use Rattle.rh_shared.specs.Crews.{SitsAt, IsCut, IsFresh, IsQuiet, views_of}
use Rattle.rh_shared.specs.Rests.{SeatRests, StaysAtRest}
use Rattle.rh_shared.specs.Seats.{view_of}
use Rattle.rh_shared.specs.declared.seat.Seat.{Seat}
use Rattle.rh_shared.specs.declared.table.Table.{Table}
use Rattle.rh_rule.specs.Seats.{InView}
use Rattle.rh_threads.specs.Hands.{AllStand, HandStands, HasStopped, InPairs, IsHand, Past}
use Rattle.rh_threads.specs.declared.crew.Crew.{Crew}
use Rattle.rh_threads.specs.declared.hand.Hand.{Hand}
use Rattle.rh_runner.specs.declared.runner.PhaseFault.{PhaseFault}
use Rattle.rh_runner.specs.declared.runner.PhaseFault.TheVariants.{Memory, NoThread}
use Rattle.rh_threads.specs.declared.fault.Fault.{Fault}
use Rattle.rh_threads.specs.declared.fault.Fault.TheVariants as faults
use Rattle.rh_threads.specs.declared.crew.RefusedStart.{RefusedStart}
use Rattle.rh_threads.specs.declared.crew.RefusedStart.TheVariants.{NotAllowed, NotStarted}

-- it rests at its seat, with its hand, at a list of so many keys as the table says
pub record IsAtWork (t : Table) (keys : List ℕ) (h : Hand) (s : Seat) : Type 0 where
  pub rests : SeatRests t s
  pub hand : IsHand t.shape keys h (view_of s)
  pub list : t.shape.keys ≡ length keys

-- It rests again. Whatever it had done of the list, it has come as far as its hand says.
pub record WorksOn (t : Table) (keys : List ℕ) (h : Hand) (s : Seat) (next : Hand) (then : Seat) : Type 0 where
  pub stays : StaysAtRest t s then
  pub hand : IsHand t.shape keys next (view_of then)
  pub stands : (past : Past) → HandStands t.shape keys past h (view_of s) → HandStands t.shape keys past next (view_of then)

-- it sits at the table, each worker with its hand, at a list of keys of which each is claimed once
pub record IsCrew (t : Table) (keys : List ℕ) (c : Crew) : Type 0 where
  pub here : SitsAt t c.seat
  pub long : length c.hands ≡ c.seat.count
  pub hands : InPairs (λ v h. IsHand t.shape keys h v) (views_of c.seat) c.hands
  pub list : t.shape.keys ≡ length keys
  pub keys_are : All IsKey keys

-- nobody has done anything in this round
pub record CanWork (t : Table) (keys : List ℕ) (c : Crew) : Type 0 where
  pub crew : IsCrew t keys c
  pub fresh : InView IsFresh (views_of c.seat)

-- They worked until each had stopped, and are at rest. Whatever each had done of the list, it has come as far as its hand says.
pub record HaveWorked (t : Table) (keys : List ℕ) (c then : Crew) : Type 0 where
  pub crew : IsCrew t keys then
  pub first : then.seat.side.worker ≡ c.seat.side.worker
  pub count : then.seat.count ≡ c.seat.count
  pub quiet : InView IsQuiet (views_of then.seat)
  pub stopped : InPairs (λ v h. HasStopped t.shape h v) (views_of then.seat) then.hands
  pub stands : (past : ℕ → Past) → AllStand t.shape keys past (views_of c.seat) c.hands → AllStand t.shape keys past (views_of then.seat) then.hands

-- its workers are at rest at their seats, each with its hand
pub record AreResting (t : Table) (c : Crew) : Type 0 where
  pub here : SitsAt t c.seat
  pub long : length c.hands ≡ c.seat.count
  pub quiet : InView IsQuiet (views_of c.seat)

-- the first workers and the others
pub record AreHalves (c left right : Crew) : Type 0 where
  pub seats : IsCut c.seat left.seat right.seat right.seat.side.worker
  pub left_hands : left.hands ≡ take left.seat.count c.hands
  pub right_hands : right.hands ≡ drop left.seat.count c.hands

-- each of which can work
pub record CutsInHalves (t : Table) (keys : List ℕ) (c left right : Crew) : Type 0 where
  pub halves : AreHalves c left right
  pub left_can : CanWork t keys left
  pub right_can : CanWork t keys right

-- of so many workers each after the first may have a thread
abbrev pub AllMayStart : (allows : ℕ → Bool) → (first count : ℕ) → Type 0
AllMayStart allows first count = (w : ℕ) → first < w → w < first + count → allows w ≡ true

-- Why they did not: one is not allowed to start, or the system refused the thread of one that is.
abbrev pub RefusedBy : (allows : ℕ → Bool) → RefusedStart → Type 0
RefusedBy allows (NotAllowed worker) = allows worker ≡ false
RefusedBy allows (NotStarted worker) = allows worker ≡ true

-- What is answered of these workers: each after the first may start, or one of several was refused a thread.
abbrev pub Heeds : {A : Type 0} → (allows : ℕ → Bool) → (first count : ℕ) → Result A RefusedStart → Type 0
Heeds allows first count (Ok x) = AllMayStart allows first count
Heeds allows first count (Err why) = (1 < count) × RefusedBy allows why

-- so of a phase, for which there may be too little memory
abbrev pub HeedsInPhase : {A : Type 0} → (allows : ℕ → Bool) → (workers : ℕ) → Result A Fault → Type 0
HeedsInPhase allows workers (Ok x) = AllMayStart allows 0 workers
HeedsInPhase allows workers (Err faults.Memory) = Unit {0}
HeedsInPhase allows workers (Err (faults.Refused why)) = (1 < workers) × RefusedBy allows why

-- as a fault of a phase
abbrev pub phase_fault_of : Fault → PhaseFault
phase_fault_of faults.Memory = Memory
phase_fault_of (faults.Refused why) = NoThread

-- how many starts were refused then, up to the greatest number
abbrev pub refused_with : Fault → (before : ℕ) → ℕ
refused_with faults.Memory before = before
refused_with (faults.Refused why) before = min (before + 1) last_count
