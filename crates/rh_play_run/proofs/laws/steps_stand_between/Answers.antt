use Rattle.std.proofs.Common.{refl}
use Rattle.rh_play_run.proofs.laws.steps_stand_between.Goals as goal

pub returns : goal.returns
returns c play text is = (
  is.pieces,
  is.ending,
  is.text_is,
  record {
    run = is.run;
    short = tt;
    ending = is.ending;
    ends = is.ends;
    as_one = is.as_one;
    text_is = refl;
  },
)
