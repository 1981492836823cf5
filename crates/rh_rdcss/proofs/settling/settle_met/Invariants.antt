use Rattle.std.proofs.Common.{ℕ, Option}
use Rattle.rh_rule.specs.declared.rule.Sitter.{Sitter}
use Rattle.rh_carrier.specs.Relies.{Knows}
use Rattle.rh_shared.specs.Seats.{IsHere, IsSame, sitter_of, view_of}
use Rattle.rh_helping.specs.Machine.{settling_of}
use Rattle.rh_helping.specs.Next.Settles.{Desc}
use Rattle.rh_helping.specs.Settling.{IsSettling}
use Rattle.rh_rdcss.specs.Settling.{RunsSettling}
use Rattle.rh_rdcss.proofs.MarksMet.{stages_left}
use Rattle.rh_rdcss.proofs.settling.settle_met.Given as goal

abbrev pub invariant-loop-settling : goal.invariant-loop-settling
invariant-loop-settling l = record {
  here : IsHere l.table l.seat;
  same : IsSame l.fn.seat l.seat;
  knows : Knows l.table.shape (view_of l.seat);
  settling : IsSettling (view_of l.seat) (settling_of l.settling);
  runs : (r : Option ℕ) (next : Sitter) → RunsSettling l.table.shape (settling_of l.settling) (sitter_of l.seat) r next → RunsSettling l.table.shape (Desc l.fn.mark l.fn.cell) (sitter_of l.fn.seat) r next;
}

abbrev pub decreases-loop-settling : goal.decreases-loop-settling
decreases-loop-settling l = stages_left (settling_of l.settling)
