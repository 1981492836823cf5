use Rattle.rh_play_run.proofs.resting.rest.Goals as goal

pub returns-clause-rests : goal.returns-clause-rests
returns-clause-rests c = rw c.requires.workers c.in_ok-take_passes.ensures
