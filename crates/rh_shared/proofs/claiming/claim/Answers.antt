use Rattle.std.proofs.Common.{◌∙◌, rules}
use Rattle.rh_shared.proofs.Claimed.{claim_rested}
use Rattle.rh_shared.proofs.claiming.claim.Goals as goal

pub returns-clause-stays : goal.returns-clause-stays
returns-clause-stays c =
    let e = c.make-position.ensures in record {
      same = search rules;
      rests = record {
        here = record { own = e.makes.seat ∙ c.requires.rests.here.own; alone = c.requires.rests.here.alone };
        knows = e.trusts.knows;
        rested = claim_rested _ _ _ e.view_is c.requires.rests.rested;
      };
    }
