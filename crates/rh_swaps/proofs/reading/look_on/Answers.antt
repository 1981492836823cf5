use Rattle.std.proofs.Common.{subst, sym}
use Rattle.rh_helping.specs.Next.{Looking}
use Rattle.rh_helping.specs.Stepping.{MayLook}
use Rattle.rh_shared.specs.Sits.{Sits}
use Rattle.rh_shared.proofs.Lending.{stays_first, stays_on}
use Rattle.rh_swaps.proofs.Looking.{sees_none, sees_word}
use Rattle.rh_swaps.proofs.Noting.{made_notes, noted_first, noted_on}
use Rattle.rh_swaps.proofs.reading.look_on.Goals as goal

pub loop-init : goal.loop-init
loop-init g c = record { at = subst (λ (l : Looking). MayLook Sits Sits c.args.shape.now c.args.cell l c.args.here.now c.args.side.now.known.view) (sym c.meet-watch.ensures) c.requires; stays = stays_first _; noted = noted_first _ }

pub loop-preserved : goal.loop-preserved
loop-preserved g c =
    let h = c.loop.invariant in
    let m = c.in-On.ensures.made in record {
      at = record { relies = record { now = m.trusts; may = m.trusts.rows }; cell = h.at.cell; looking = c.in-On.ensures.leads };
      stays = stays_on _ _ _ h.stays m.steps.stays;
      noted = noted_on _ _ _ h.noted (made_notes _ _ _ _ _ _ m);
    }

pub returns-in-Sees : goal.returns-in-Sees
returns-in-Sees g c = sees_word c.loop.invariant.stays c.loop.invariant.noted c.in-Sees.ensures

pub returns-in-Spent : goal.returns-in-Spent
returns-in-Spent g c = sees_none c.loop.invariant.stays c.loop.invariant.noted c.in-Spent.ensures
