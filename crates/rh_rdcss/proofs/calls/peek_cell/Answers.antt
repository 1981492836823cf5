use Rattle.std.proofs.Common.{subst, sym}
use Rattle.rh_words.specs.View.{View}
use Rattle.rh_words.specs.Words.{cell_in}
use Rattle.rh_shared.specs.Seats.{view_of}
use Rattle.rh_rdcss.specs.Calls.{Meets, StillKnows}
use Rattle.rh_helping.proofs.Looks.{cell_grows}
use Rattle.rh_rdcss.proofs.Looked.{meets}
use Rattle.rh_rdcss.proofs.calls.peek_cell.Goals as goal

pub returns-clause-meets : goal.returns-clause-meets
returns-clause-meets c =
    let v = view_of c.args.seat.now in
    let word = c.make.result in
    subst (λ (u : View). Meets c.args.cell (cell_in word) u.side.facts) (sym c.make.ensures.learned.view_is)
    (meets v.side c.args.cell (cell_in word) v.side.current 0 v.next_number)

pub returns-clause-still : goal.returns-clause-still
returns-clause-still c =
    let v = view_of c.args.seat.now in
    subst (λ (u : View). StillKnows v u) (sym c.make.ensures.learned.view_is) (cell_grows v c.args.cell (cell_in c.make.result) v.side.current).facts
