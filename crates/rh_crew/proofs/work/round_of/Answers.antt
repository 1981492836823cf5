use Rattle.std.proofs.Common.{subst, sym}
use Rattle.rh_rule.specs.Seats.{InView}
use Rattle.rh_shared.specs.Crews.{IsQuiet}
use Rattle.rh_shared.proofs.Crews.{fresh_rows}
use Rattle.rh_crew.proofs.Seats.{both_quiet, fresh_quiet}
use Rattle.rh_crew.proofs.work.round_of.Goals as goal

pub split-resting-requires-clause-rows : goal.split-resting-requires-clause-rows
split-resting-requires-clause-rows g c = fresh_rows c.args.table.now.shape _ c.requires.fresh

pub join-requires-clause-other_rest : goal.join-requires-clause-other_rest
join-requires-clause-other_rest g c = let idle = (c.split-resting.ensures.still_fresh c.requires.fresh).1 in λ r s at. fresh_quiet s.view (idle r s at)

pub wipe-requires-clause-rest : goal.wipe-requires-clause-rest
wipe-requires-clause-rest g c =
    let idle = (c.split-resting.ensures.still_fresh c.requires.fresh).1 in
    subst (InView IsQuiet) (sym c.join.ensures.joined.views) (both_quiet _ _ c.all_work-all.ensures.quiet (λ r s at. fresh_quiet s.view (idle r s at)))
