-- A worked run of two workers, which shows that the conditions of the steps can be met. Worker 1 helps the descriptor of
-- worker 0 and decides it; then it promotes a mark of worker 0 late, whose descriptor was withdrawn meanwhile.
use Rattle.std.specs.Prelude.{◌≡◌, ℕ, ◌+◌, true, false, List, [], ◌∷◌}
use Rattle.rh_world.specs.World.{Ref, World}
use Rattle.rh_world.specs.World.Cell.{plain}
use Rattle.rh_world.specs.World.Control.{succeeded, withdrawn, failed}
use Rattle.rh_world.specs.Facts.Fact.{size_is}
use Rattle.rh_world.specs.Sides.{Side}
use Rattle.rh_world.specs.Moves.{Entries, Move}
use Rattle.rh_world.specs.Moves.Move.{learns, opens, reads_cell, reads_control, reads_mark_control, places, settles, decides, releases, claims}
use Rattle.rh_world.specs.Ends.{start_world, start_sides, AllAtRest, WorldTurn, Runs}

-- the three descriptors of worker 0: cells 0 and 1 from 5 to 7 and 8; cell 2 from 5 to 9; cell 2 from 6 to 9
abbrev pub first : Ref
first = record { worker = 0; number = 0 }

abbrev pub second : Ref
second = record { worker = 0; number = 1 }

abbrev pub third : Ref
third = record { worker = 0; number = 2 }

abbrev pub entries_of_first : Entries
entries_of_first = record { size = 2; target = λ e. e; old = λ e. 5; new = λ e. 7 + e }

abbrev pub entry_at_2 : (old : ℕ) → Entries
entry_at_2 old = record { size = 1; target = λ e. 2; old = λ e. old; new = λ e. 9 }

-- the two marks of worker 0, and the one of worker 1
abbrev pub mark_a : Ref
mark_a = record { worker = 0; number = 0 }

abbrev pub mark_b : Ref
mark_b = record { worker = 0; number = 1 }

abbrev pub mark_c : Ref
mark_c = record { worker = 1; number = 0 }

abbrev pub turn : ℕ → Move → WorldTurn
turn who move = record { who = who; move = move }

abbrev pub helped_run : List WorldTurn
helped_run =
    turn 0 (opens entries_of_first)
    ∷ turn 0 (places first 0)
    ∷ turn 1 (reads_cell 0)
    ∷ turn 1 (reads_mark_control mark_a 0)
    ∷ turn 1 (settles mark_a 0 true)
    ∷ turn 0 (reads_mark_control mark_a 0)
    ∷ turn 0 (settles mark_a 0 true)
    ∷ turn 1 (learns (size_is first 2 ∷ []))
    ∷ turn 1 (places first 0)
    ∷ turn 1 (places first 1)
    ∷ turn 1 (reads_mark_control mark_c 1)
    ∷ turn 1 (settles mark_c 1 true)
    ∷ turn 1 (decides first succeeded)
    ∷ turn 0 (reads_control first)
    ∷ turn 0 (releases first 0)
    ∷ turn 1 (releases first 1)
    ∷ turn 0 (releases first 1)
    ∷ turn 0 (opens (entry_at_2 5))
    ∷ turn 0 (places second 0)
    ∷ turn 1 (reads_cell 2)
    ∷ turn 1 (reads_mark_control mark_b 2)
    ∷ turn 0 (decides second withdrawn)
    ∷ turn 1 (settles mark_b 2 true)
    ∷ turn 0 (reads_mark_control mark_b 2)
    ∷ turn 0 (settles mark_b 2 false)
    ∷ turn 0 (releases second 0)
    ∷ turn 0 (opens (entry_at_2 6))
    ∷ turn 0 (places third 0)
    ∷ turn 0 (decides third (failed 0 0))
    ∷ turn 0 (releases third 0)
    ∷ turn 1 claims
    ∷ turn 0 claims
    ∷ turn 1 (reads_cell 1)
    ∷ []

-- all are at rest again; the first descriptor succeeded, the second was withdrawn and the third failed
pub record HelpedEnd (v : World) (then : ℕ → Side) : Type 0 where
  pub rest : AllAtRest then
  pub first_cell : v.cell 0 ≡ plain 7
  pub second_cell : v.cell 1 ≡ plain 8
  pub third_cell : v.cell 2 ≡ plain 5
  pub acts : v.act_count ≡ 1
  pub act : v.act 0 ≡ first
  pub withdrew : v.control second ≡ withdrawn
  pub missed : v.control third ≡ failed 0 0
  pub counter : v.counter ≡ 2

-- with one key in the list, and 5 in each cell
abbrev pub ARunToASuccess : Type 0
ARunToASuccess = (v : World) × (then : ℕ → Side) × Runs (start_world 2 1 (λ c. 5)) start_sides helped_run v then × HelpedEnd v then
