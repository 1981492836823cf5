use Rattle.std.proofs.Common.{◌∙◌, ap, inl}
use Rattle.rh_words.specs.View.{View}
use Rattle.rh_words.specs.Words.{ref_of}
use Rattle.rh_shared.specs.Seats.{sitter_of}
use Rattle.rh_kcas.proofs.Helped.{notes_saw}
use Rattle.rh_kcas_tests.proofs.Peeking.{status_rested, status_saw}
use Rattle.rh_kcas_tests.proofs.Meeting.{entry_on}
use Rattle.rh_kcas_tests.proofs.stale.state.Goals as goal

pub returns : goal.returns
returns c =
    let z = c.args.table.now.shape in
    let k = sitter_of c.args.seat.now in
    let next = sitter_of c.status.new.seat in
    let d = c.args.desc in
    let e = c.status.ensures in
    let h = c.requires in
    let saw = status_saw z k next d c.status.result (inl h.entry.seen) e.read in
    let rested = status_rested z k next d c.status.result (inl h.entry.seen) e.read h.rests.rested in record {
      rests = record {
        here = record { own = e.same.table ∙ h.rests.here.own; alone = e.same.count ∙ h.rests.here.alone };
        knows = e.read.control.knows;
        rested = rested;
      };
      entry = entry_on z k.view next.view d 0 (notes_saw k.view next.view (ref_of d) saw.0 saw.1 (ap (λ (x : View). x.opening) e.read.control.view_is)) rested.clear h.entry;
    }
