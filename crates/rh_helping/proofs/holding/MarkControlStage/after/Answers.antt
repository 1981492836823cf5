use Rattle.std.proofs.Common.{None, Some, sym}
use Rattle.rh_helping.specs.Goal.{opened_by}
use Rattle.rh_helping.specs.Machine.{placed_of}
use Rattle.rh_helping.proofs.Leading.{goes_on}
use Rattle.rh_helping.proofs.Marking.{control_decided, control_stale, control_own, control_undecided}
use Rattle.rh_helping.proofs.holding.MarkControlStage.after.Goals as goal

pub returns-then-is_decided : goal.returns-then-is_decided
returns-then-is_decided g c = let f = c.requires in goes_on (control_own f.before _ (placed_of c.args.machine.now) f.stands (opened_by c.args._opens) f.own c.args.found _ f.finds f.view_is (Some c.in-Some.state) c.in-Some.ensures, control_decided f.before _ (placed_of c.args.machine.now) f.stands (opened_by c.args._opens) f.own c.args.found _ f.finds f.view_is c.in-Some.state c.in-Some.ensures (sym c.if-is_decided.ensures))

pub returns-else-is_decided : goal.returns-else-is_decided
returns-else-is_decided g c = let f = c.requires in goes_on (control_own f.before _ (placed_of c.args.machine.now) f.stands (opened_by c.args._opens) f.own c.args.found _ f.finds f.view_is (Some c.in-Some.state) c.in-Some.ensures, control_undecided f.before _ (placed_of c.args.machine.now) f.stands (opened_by c.args._opens) f.own c.args.found _ f.finds f.view_is c.in-Some.state c.in-Some.ensures (sym c.if-is_decided.ensures))

pub returns-in-None : goal.returns-in-None
returns-in-None g c = let f = c.requires in goes_on (control_own f.before _ (placed_of c.args.machine.now) f.stands (opened_by c.args._opens) f.own c.args.found _ f.finds f.view_is None c.in-None.ensures, control_stale f.before _ (placed_of c.args.machine.now) f.stands (opened_by c.args._opens) f.own c.args.found _ f.finds f.view_is c.in-None.ensures)
