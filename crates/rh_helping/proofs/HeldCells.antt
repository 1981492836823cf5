-- The cell that a worker holds, by what is so of it between two of its steps.
use Rattle.std.proofs.Common.{◌≡◌, ℕ, inl, inr, refl, sym, subst, Bool, Option, Some, None}
use Rattle.rh_tagword.specs.declared.control.State.{State}
use Rattle.rh_tagword.specs.declared.control.State.TheVariants.{Unused, Undecided}
use Rattle.rh_world.specs.World.{Ref, In}
use Rattle.rh_world.specs.Facts.Fact.{desc_is, found, old_is, size_is, target_is}
use Rattle.rh_words.specs.declared.shape.Shape.{Shape}
use Rattle.rh_words.specs.View.{View, own_ref}
use Rattle.rh_words.specs.Words.{ref_of}
use Rattle.rh_helping.specs.Next.{Goal, Looking, PlacedMark, Work}
use Rattle.rh_helping.specs.declared.goal.Owed.{Owed}
use Rattle.rh_helping.specs.declared.goal.Task.{Task}
use Rattle.rh_helping.specs.Next.{Looking as looking}
use Rattle.rh_helping.specs.Next.{Work as work}
use Rattle.rh_carrier.specs.Own.{OwesNothing}
use Rattle.rh_helping.specs.Goal.{KnowsGoal, KnowsTask, OwesOne, StandsAt, owed_of}
use Rattle.rh_helping.specs.Held.{IsHeld, KnowsOld, held_by, held_in}
use Rattle.rh_helping.specs.Looking.{IsLooking}
use Rattle.rh_helping.specs.Work.{IsMarkPlaced, IsSwapped, OwesAs, Stands}

none_held : (v : View) → OwesNothing v → IsHeld v None
none_held v owes = (owes.settled, owes.paid)

goal_old : (v : View) (g : Goal) → KnowsGoal v g → KnowsOld v (owed_of g)
goal_old v g h = record { work = record { size = g.task.size; known = h.task.size; within = h.entry }; cell = h.cell; old = h.old }

-- of a task that is released it holds the cell that is owed
released_held : (v : View) (d : Ref) (e size : ℕ) (o : Option Owed) → In (size_is d size) v.side.facts → v.side.unsettled ≡ None → OwesOne v d e size o → IsHeld v o
released_held v d e size None known settled owes = (settled, owes)
released_held v d e size (Some o) known settled owes =
    let at = owes.1 in
    let is : d ≡ ref_of o.piece.desc = sym at.of_desc in (
      record {
        work = record { size = size; known = subst (λ (r : Ref). In (size_is r size) v.side.facts) is known; within = at.within };
        cell = subst (λ (r : Ref). In (target_is r o.piece.entry o.piece.cell) v.side.facts) is at.cell;
        old = subst (λ (r : Ref). In (old_is r o.piece.entry o.old) v.side.facts) is at.old;
      },
      inr (settled, owes.0),
    )

task_held : (v : View) (t : Task) (k : State) → t.state ≡ k → KnowsTask v t → OwesAs v t k → IsHeld v t.owed
task_held v t Unused is h owes = absurd (subst (λ (s : State). StandsAt v.side.facts (ref_of t.desc) s t.entry) is h.met.stands)
task_held v t Undecided is h owes = subst (IsHeld v) (sym (h.unowed is)) (none_held v owes)
task_held v t _ is h owes = released_held v (ref_of t.desc) t.entry t.size t.owed h.size owes.settled owes.owes

placed_held : (v : View) (p : PlacedMark) → IsMarkPlaced v p → IsHeld v (Some (owed_of p.goal))
placed_held v p h =
    let own : ref_of p.mark ≡ own_ref v p.mark.number = (λ i. record { worker = h.own i; number = p.mark.number }) in (
      goal_old v p.goal h.goal,
      inl (
        record {
          number = p.mark.number;
          unsettled = h.unsettled;
          met = subst (λ (x : Ref). In (found x p.goal.cell) v.side.facts) own h.met;
          names = subst (λ (x : Ref). In (desc_is x (ref_of p.goal.task.desc)) v.side.facts) own h.of_desc;
        },
        h.paid,
      ),
    )

swapped_held : (v : View) (g : Goal) (promoted : Bool) → IsSwapped v g promoted → IsHeld v (Some (owed_of g))
swapped_held v g promoted h = (goal_old v g h.goal, inr (h.settled, h.owes))

pub work_held : (z : Shape) (v : View) (w : Work) → Stands z v w → IsHeld v (held_by w)
work_held z v (work.EntryCell t) h = task_held v t t.state refl h.0.task h.0.owes
work_held z v (work.EntryOld t c) h = task_held v t t.state refl h.0.task h.0.owes
work_held z v (work.EntryNew t c o) h = task_held v t t.state refl h.0.task h.0.owes
work_held z v (work.EntrySerial g) h = task_held v g.task g.task.state refl h.0.task h.0.owes
work_held z v (work.MarkSerial g) h = none_held v h.owes
work_held z v (work.MarkDesc g) h = none_held v h.0.owes
work_held z v (work.MarkEntry g) h = none_held v h.0.owes
work_held z v (work.Place g) h = none_held v h.0.owes
work_held z v (work.Settle s g) h = none_held v h.0.owes
work_held z v (work.MarkControl p) h = placed_held v p h
work_held z v (work.Promote p) h = placed_held v p h.0
work_held z v (work.Demote p k) h = placed_held v p h.0
work_held z v (work.Recheck g promoted) h = swapped_held v g promoted h
work_held z v (work.WriteReason t) h = none_held v (subst (OwesAs v t) h.undecided h.at.owes)
work_held z v (work.Fail t) h = none_held v (subst (OwesAs v t) h.0.undecided h.0.at.owes)
work_held z v (work.Succeed t) h = none_held v h.3
work_held z v (work.ReadReason t by) h = task_held v t t.state refl h.0.task h.0.owes
work_held z v (work.Release g) h = released_held v (ref_of g.task.desc) g.task.entry g.task.size g.task.owed h.0.task.size h.2.settled h.2.owes
work_held z v (work.GiveBack o) h = (record { work = h.work; cell = h.cell; old = h.old }, inr (h.settled, h.owes))
work_held z v _ h = none_held v h.0

pub looking_held : (z : Shape) (v : View) (l : Looking) → IsLooking z v l → IsHeld v (held_in l)
looking_held z v looking.Read h = none_held v h.owes
looking_held z v (looking.Settle s) h = none_held v h.0.owes
looking_held z v (looking.Help w) h = work_held z v w h.1
