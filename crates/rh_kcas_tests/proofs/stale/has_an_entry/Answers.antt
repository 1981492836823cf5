use Rattle.std.proofs.Common.{◌<◌, ◌∙◌, arith}
use Rattle.std.proofs.lemmas.Bool.Decides.{nat_tests}
use Rattle.rh_shared.specs.Seats.{sitter_of}
use Rattle.rh_kcas_tests.proofs.Peeking.{count_rested}
use Rattle.rh_kcas_tests.proofs.stale.has_an_entry.Goals as goal

pub returns-in-Some : goal.returns-in-Some
returns-in-Some c = λ yes.
    let e = c.in-Some.ensures in
    let h = c.requires.rests in
    let some : 0 < c.in-Some.size = grind (arith, nat_tests) in record {
      rests = record {
        here = record { own = e.stays.same.table ∙ h.here.own; alone = e.stays.same.count ∙ h.here.alone };
        knows = e.stays.knows;
        rested = count_rested _ (sitter_of c.args.seat.now) (sitter_of c.count_entries.new.seat) c.args.desc c.in-Some.size e.says h.rested;
      };
      entry = e.entries 0 some;
    }
