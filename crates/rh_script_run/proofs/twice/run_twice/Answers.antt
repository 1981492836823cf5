use Rattle.rh_script.specs.Script.{steps_of}
use Rattle.rh_script_run.proofs.AgreeLemmas.{runs_agree}
use Rattle.rh_script_run.proofs.twice.run_twice.Goals as goal

pub returns-clause-agree : goal.returns-clause-agree
returns-clause-agree g c files known known' itself itself' =
    runs_agree files (steps_of c.args.script.now) _ _ _ _ _ _ (c.run-first.ensures.meant files known) (c.run-second.ensures.meant files known') itself itself'
