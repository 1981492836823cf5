use Rattle.std.proofs.Common.{◌∙◌, rules}
use Rattle.rh_swaps.proofs.Carried.{acts_on, rested_on}
use Rattle.rh_kcas.proofs.helping.help.Goals as goal

pub returns-clause-stays : goal.returns-clause-stays
returns-clause-stays g c =
    let e = c.go_about.ensures in record {
      same = search rules;
      rests = record {
        here = record { own = e.stays.seat ∙ c.requires.rests.here.own; alone = c.requires.rests.here.alone };
        knows = e.stays.knows;
        rested = rested_on _ _ _ e.stays.knows e.helps.noted c.requires.rests.rested e.clear;
      };
    }

pub returns-clause-acts : goal.returns-clause-acts
returns-clause-acts g c =
    let e = c.go_about.ensures in
    acts_on _ _ _ e.stays.knows e.helps.noted c.requires.rests.rested
