use Rattle.rh_helping.proofs.Starting.{left_below}
use Rattle.rh_helping.proofs.machine.Machine.at_entry.Goals as goal

pub own_entry-self-requires-clause-entry : goal.own_entry-self-requires-clause-entry
own_entry-self-requires-clause-entry g c = left_below _ _ c.requires.next c.if-task.false

pub returns-then-task-side : goal.returns-then-task-side
returns-then-task-side g c = λ w. record { same = c.own_entry-self.ensures.same; leads = c.ready.ensures.leads; ends = c.ready.ensures.ends w }
