-- What a worker knows of a task lets it go on: the descriptor and its entries are of the table.
use Rattle.std.proofs.Common.{ℕ, ◌<◌, ◌≤◌, arith}
use Rattle.rh_world.specs.Moves.{MayWork}
use Rattle.rh_words.specs.declared.shape.Shape.{Shape}
use Rattle.rh_words.specs.Parts.{cell_count}
use Rattle.rh_words.specs.View.{View}
use Rattle.rh_words.specs.Words.{ref_of}
use Rattle.rh_words.specs.Steps.{Allowed, IsDesc, IsKnown, IsStep, Step}
use Rattle.rh_helping.specs.declared.goal.Task.{Task}
use Rattle.rh_helping.specs.Next.{Goal}
use Rattle.rh_helping.specs.Goal.{KnowsGoal, KnowsTask}
use Rattle.rh_carrier.specs.Relies.{Knows}
use Rattle.rh_helping.proofs.Growing.{stands_known}

module _ (z : Shape) (v : View) (trusts : Knows z v) where
  pub allowed : (s : Step) → IsStep z v s → Allowed z v s
  allowed s h = record { worker = trusts.worker; still = trusts.still; step = h }

  module _ (t : Task) (k : KnowsTask v t) where
    pub task_known : IsKnown v.side.facts (ref_of t.desc)
    task_known = stands_known v.side.facts (ref_of t.desc) t.state t.entry k.met.stands

    pub task_desc : IsDesc z (ref_of t.desc)
    task_desc = trusts.sound.descs (ref_of t.desc) task_known

    task_room : t.size ≤ cell_count z
    task_room = (trusts.sound.sizes (ref_of t.desc) t.size k.size).1

    pub task_work : (e : ℕ) → e < t.size → MayWork v.side (ref_of t.desc) e
    task_work e lt = record { size = t.size; known = k.size; within = lt }

    pub entry_here : t.entry < t.size → t.entry < cell_count z
    entry_here lt = let room = task_room in omega (arith, lt, room)

  module _ (g : Goal) (k : KnowsGoal v g) where
    pub goal_work : MayWork v.side (ref_of g.task.desc) g.task.entry
    goal_work = task_work g.task k.task g.task.entry k.entry

    pub goal_cell : g.cell < cell_count z
    goal_cell = trusts.sound.targets (ref_of g.task.desc) g.task.entry g.cell k.cell goal_work
