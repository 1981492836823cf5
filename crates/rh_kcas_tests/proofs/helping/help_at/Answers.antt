use Rattle.std.proofs.Common.{◌∙◌}
use Rattle.rh_kcas_tests.proofs.Peeking.{peek_rested}
use Rattle.rh_kcas_tests.proofs.helping.help_at.Goals as goal

pub help-requires-clause-rests : goal.help-requires-clause-rests
help-requires-clause-rests g c =
    let e = c.peek_cell-word.ensures in
    let h = c.requires in record {
      here = record { own = e.same.table ∙ h.here.own; alone = e.same.count ∙ h.here.alone };
      knows = e.read.knows;
      rested = peek_rested _ _ _ _ _ e.read h.rested;
    }
