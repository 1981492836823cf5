use Rattle.std.proofs.Common.{refl}
use Rattle.rh_play_tests.proofs.ChosenLemmas.{may_give_reason}
use Rattle.rh_play_tests.proofs.tracing.write_again.Goals as goal
use Rattle.rh_play_tests.specs.Chosen.{the_shape}

pub write_own-requires-in-Reason-clause-free : goal.write_own-requires-in-Reason-clause-free
write_own-requires-in-Reason-clause-free c =
    (refl, c.if-owner-lt3.true, may_give_reason the_shape c.args.who c.in-Reason.owner c.args.word)
