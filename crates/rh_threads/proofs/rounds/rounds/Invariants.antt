use Rattle.rh_shared.specs.Crews.{HasAll, views_of}
use Rattle.rh_threads.specs.Crew.{CanWork}
use Rattle.rh_threads.specs.Rounds.{Comes, Setting, at_table}
use Rattle.rh_threads.proofs.rounds.rounds.Given as goal

abbrev pub invariant-loop : goal.invariant-loop
invariant-loop g l = record {
  can : CanWork l.table l.keys l.crew;
  all : HasAll l.table l.crew.seat;
  comes : (ph : Setting) → Comes (at_table l.table l.keys ph) (views_of l.fn.crew.seat) l.fn.crew.hands → Comes (at_table l.table l.keys ph) (views_of l.crew.seat) l.crew.hands;
}
