use Rattle.std.proofs.Common.{ap, subst, sym, ◌∙◌}
use Rattle.rh_words.specs.View.{View}
use Rattle.rh_words.specs.Words.{ref_of}
use Rattle.rh_shared.specs.Seats.{view_of}
use Rattle.rh_rdcss.specs.Calls.{SeenAs, StillKnows}
use Rattle.rh_rdcss.proofs.Looked.{same_unsettled, seen_as, still_known}
use Rattle.rh_rdcss.proofs.calls.status.Goals as goal

pub returns-clause-seen : goal.returns-clause-seen
returns-clause-seen c =
    let v = view_of c.args.seat.now in
    subst (λ (u : View). SeenAs (ref_of c.args.desc) c.status_by.result u.side.facts) (sym c.make-word.ensures.learned.view_is)
    (seen_as v.side (ref_of c.args.desc) c.make-word.result c.status_by.result c.status_by.ensures)

pub returns-clause-unsettled : goal.returns-clause-unsettled
returns-clause-unsettled c =
    ap (λ (u : View). u.side.unsettled) c.make-word.ensures.learned.view_is ∙ same_unsettled (view_of c.args.seat.now).side (ref_of c.args.desc) c.make-word.result

pub returns-clause-still : goal.returns-clause-still
returns-clause-still c =
    let v = view_of c.args.seat.now in
    subst (λ (u : View). StillKnows v u) (sym c.make-word.ensures.learned.view_is) (still_known v.side (ref_of c.args.desc) c.make-word.result)
