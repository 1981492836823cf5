use Rattle.rh_shared.proofs.Lending.{stays_first, stays_on}
use Rattle.rh_swaps.proofs.Noting.{closes, made_notes, noted_first, noted_on}
use Rattle.rh_swaps.proofs.swapping.carry_on.Goals as goal

pub loop-init : goal.loop-init
loop-init g c = record { at = c.requires; stays = stays_first _; noted = noted_first _ }

pub loop-preserved : goal.loop-preserved
loop-preserved g c =
    let h = c.loop.invariant in
    let m = c.in-On.ensures.made in
    let l = c.in-On.ensures.leads in record {
      at = record { relies = record { now = m.trusts; may = m.trusts.rows }; own = l.0; stands = l.1 };
      stays = stays_on _ _ _ h.stays m.steps.stays;
      noted = noted_on _ _ _ h.noted (made_notes _ _ _ _ _ _ m);
    }

pub returns-in-Closed : goal.returns-in-Closed
returns-in-Closed g c = closes c.loop.invariant.stays c.loop.invariant.noted c.in-Closed.ensures
