use Rattle.std.proofs.Common.{Some, ◌∙◌, subst}
use Rattle.rh_tagword.specs.declared.control.State.{State}
use Rattle.rh_words.specs.Words.{ref_of}
use Rattle.rh_kcas_tests.proofs.Peeking.{status_rested}
use Rattle.rh_shared.specs.Seats.{sitter_of}
use Rattle.rh_rdcss.specs.Calls.{SeenAs}
use Rattle.rh_kcas_tests.proofs.stale.is_undecided.Goals as goal

pub status-requires-clause-desc : goal.status-requires-clause-desc
status-requires-clause-desc c = c.requires.rests.knows.sound.descs (ref_of c.args.desc) c.requires.known

pub returns : goal.returns
returns c =
    let next = sitter_of c.status.new.seat in
    let e = c.status.ensures in
    let h = c.requires.rests in
    let rested = status_rested c.args.table.now.shape (sitter_of c.args.seat.now) next c.args.desc c.status.result c.requires.known e.read h.rested in
    λ yes. record {
      rests = record {
        here = record { own = e.same.table ∙ h.here.own; alone = e.same.count ∙ h.here.alone };
        knows = e.read.control.knows;
        rested = rested;
      };
      may = record {
        desc = h.knows.sound.descs (ref_of c.args.desc) c.requires.known;
        seen = subst (λ (k : State). SeenAs (ref_of c.args.desc) (Some k) next.view.side.facts) c.in-Some-Undecided.field-0-is c.in-Some-Undecided.ensures.seen;
        settled = rested.clear.owes.settled;
      };
    }
