use Rattle.std.proofs.Common.{subst, sym}
use Rattle.rh_helping.specs.Next.{Looking}
use Rattle.rh_helping.specs.Next.{Looking as looking}
use Rattle.rh_helping.specs.Next.Looked.{On}
use Rattle.rh_helping.specs.Stepping.{HasLooked}
use Rattle.rh_helping.proofs.machine.Machine.read.Goals as goal

pub returns-in-Other : goal.returns-in-Other
returns-in-Other g c = subst
    (λ (l : Looking). HasLooked g.T.Steps.shows g.T.Steps.made c.args.shape.now c.args.cell looking.Read c.args.table.now c.args.side.now.known.view (On l) c.read_cell.new.table c.read_cell.new.side.known.view)
    (sym c.meet.ensures) c.in-Other.ensures
