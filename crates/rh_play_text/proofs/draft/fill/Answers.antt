use Rattle.std.proofs.Common.{ap, refl}
use Rattle.rh_play_text.specs.Grammar.{follow}
use Rattle.rh_play_text.specs.Saying.{AfterHeld, AfterRooms}
use Rattle.rh_play_text.specs.Play.{saying_as}
use Rattle.rh_play_text.proofs.Entering.{entered_alike, goes, no_rooms, rooms_fit}
use Rattle.rh_play_text.proofs.draft.fill.Goals as goal

pub invariant_of-result : goal.invariant_of-result
invariant_of-result c =
    let fit = rooms_fit c.args.line c.in-Rooms.descriptors c.in-Rooms.marks c.requires c.in-Rooms.is in
    record { some_descriptors = fit.0; most_descriptors = fit.1; some_marks = fit.2; most_marks = fit.3 }

pub returns-in-Rooms : goal.returns-in-Rooms
unfolding follow
returns-in-Rooms c = goes _ c.args.line _ _ _ c.requires (ap saying_as c.in-Rooms.is) refl refl

pub returns-in_default : goal.returns-in_default
returns-in_default c =
    rw (entered_alike AfterHeld AfterRooms _ (saying_as c.args.line) (no_rooms c.args.line c.in_default.not-Rooms)) c.begin.ensures
