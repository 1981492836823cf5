-- Each step, and each run of steps.
use Rattle.std.proofs.Common.{ℕ, List}
use Rattle.rh_world.specs.World.{World}
use Rattle.rh_world.specs.Sides.{Side}
use Rattle.rh_world.specs.Rule.{Rule}
use Rattle.rh_world.specs.Ends.{Runs, WorldTurn}
use Rattle.rh_world.specs.Ends.Runs.{goes, rests}
use Rattle.rh_world.specs.Laws.{EachStepKeeps, EachStepKeepsActs, EachStepKeepsPrefixes, EachStepKeepsRows, RunsKeep}
use Rattle.rh_world.proofs.ClaimsKept.{claims_kept}
use Rattle.rh_world.proofs.StepsKept.{steps_keep}

pub steps_keep_rows : EachStepKeepsRows
steps_keep_rows w side who m rows may =
    (steps_keep ⊥ ⊥ w side who m record { rows = rows; acts = λ a. absurd a; prefixes = λ a. absurd a } may).rows

pub steps_keep_acts : EachStepKeepsActs
steps_keep_acts w side who m rows acts may =
    (steps_keep (Unit {0}) ⊥ w side who m record { rows = rows; acts = λ a. acts; prefixes = λ a p. absurd p } may).acts tt

pub steps_keep_prefixes : EachStepKeepsPrefixes
steps_keep_prefixes w side who m rows acts prefixes may =
    (steps_keep (Unit {0}) (Unit {0}) w side who m record { rows = rows; acts = λ a. acts; prefixes = λ a p. prefixes } may).prefixes tt tt

pub each_step_keeps : EachStepKeeps
each_step_keeps w side who m r may = record {
  rows = steps_keep_rows w side who m r.rows may;
  acts = steps_keep_acts w side who m r.rows r.acts may;
  prefixes = steps_keep_prefixes w side who m r.rows r.acts r.prefixes may;
  claims = claims_kept w side who m r.claims may;
}

run_keeps : {w v : World} {side then : ℕ → Side} {turns : List WorldTurn} → Runs w side turns v then → Rule w side
    → Rule v then
run_keeps rests r = r
run_keeps (goes {w = w} {side = side} who m may run) r = run_keeps run (each_step_keeps w side who m r may)

pub runs_keep : RunsKeep
runs_keep w v side then turns run r = run_keeps run r
