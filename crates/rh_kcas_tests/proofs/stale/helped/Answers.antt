use Rattle.rh_kcas_tests.proofs.Meeting.{entry_on}
use Rattle.rh_kcas_tests.proofs.stale.helped.Goals as goal

pub returns : goal.returns
returns g c =
    let e = c.help.ensures in record {
      rests = e.stays.rests;
      entry = entry_on _ _ _ _ _ e.helps.noted e.stays.rests.rested.clear c.requires.entry;
    }
