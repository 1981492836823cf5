use Rattle.rh_swaps.proofs.Looking.{seen_later, sees_word}
use Rattle.rh_swaps.proofs.Noting.{made_notes, noted_first}
use Rattle.rh_shared.proofs.Lending.{stays_first, stays_on}
use Rattle.rh_swaps.proofs.reading.look.Goals as goal

pub returns-in-Value : goal.returns-in-Value
returns-in-Value g c = sees_word (stays_first _) (noted_first _) c.in-Value.ensures

pub look_on-requires : goal.look_on-requires
look_on-requires g c =
    let e = c.in-Other.ensures in record {
      relies = record { now = e.made.trusts; may = e.made.trusts.rows };
      cell = c.requires.cell;
      looking = e.leads;
    }

pub returns-in-Other : goal.returns-in-Other
returns-in-Other g c =
    let m = c.in-Other.ensures.made in
    let e = c.look_on.ensures in record {
      stays = record { stays = stays_on _ _ _ m.steps.stays e.stays.stays; trusts = e.stays.trusts };
      clear = e.clear;
      rule_tells = e.rule_tells;
      reads = seen_later _ _ _ _ _ _ (made_notes _ _ _ _ _ _ m) e.reads;
    }
