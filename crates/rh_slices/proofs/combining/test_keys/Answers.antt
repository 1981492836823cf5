use Rattle.rh_slices.proofs.Numbers.{all_tested, first_of, one_more, none_tested}
use Rattle.rh_slices.proofs.combining.test_keys.Goals as goal

pub loop-list-init : goal.loop-list-init
loop-list-init c = none_tested c.args.lists.now

pub returns-in-Some : goal.returns-in-Some
returns-in-Some c room how = first_of c.args.lists.now c.loop-list.list _ c.in-Some.at c.loop-list-test.true c.in-Some.ensures c.loop-list.invariant

pub loop-list-preserved : goal.loop-list-preserved
loop-list-preserved c = one_more c.args.lists.now c.loop-list.list _ c.loop-list-test.true c.in_default.ensures c.loop-list.invariant

pub returns : goal.returns
returns c = all_tested c.args.lists.now c.loop-list.list c.loop-list-test.false c.loop-list.invariant
