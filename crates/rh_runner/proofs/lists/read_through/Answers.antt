use Rattle.std.proofs.Common.{arith, ◌≢◌, ◌∙◌}
use Rattle.rh_runner.proofs.ListLemmas.{more_came}
use Rattle.rh_runner.proofs.lists.read_through.Goals as goal

pub loop-preserved : goal.loop-preserved
loop-preserved g c =
    let some : c.in_ok-next_keys.field-0 ≢ 0 = omega arith in
    (_, more_came c.loop.invariant.1 _ c.next_keys.new.batch _ c.in_ok-next_keys.field-0 c.in_ok-next_keys.ensures.gives some c.in_ok-next_keys.ensures.room c.in_ok-next_keys.ensures.left c.in_ok-next_keys.ensures.in_range, c.in_ok-next_keys.ensures.fine ∙ c.loop.invariant.2)
