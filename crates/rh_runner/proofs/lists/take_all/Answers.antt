use Rattle.std.proofs.Common.{rules, arith, ◌≢◌, ◌∙◌, ◌-◌, length, length-take-le, subst}
use Rattle.rh_bytes.proofs.Filling.{filled_more}
use Rattle.rh_runner.proofs.ListLemmas.{Came, more_came}
use Rattle.rh_runner.proofs.lists.take_all.Goals as goal

pub loop-taken-preserved : goal.loop-taken-preserved
loop-taken-preserved g c =
    let from = c.loop-taken.taken in
    let list = c.loop-taken.list in
    let n = c.in_ok-taken.field-0 in
    let so_far = c.loop-taken.invariant in
    let some : n ≢ 0 = λ none. omega (arith, c.in_ok-taken.ensures.ends none, so_far.came.long, length-take-le from list so_far.within, c.requires, so_far.long, c.loop-taken-test.true) in
    let joined = filled_more from (length list - from) n list c.next_keys.new.batch so_far.within c.in_ok-taken.ensures.room in
    record {
      within = search rules;
      long = search rules;
      came = subst (Came _ _ _ _) joined (more_came so_far.came _ c.next_keys.new.batch _ n c.in_ok-taken.ensures.gives some c.in_ok-taken.ensures.room c.in_ok-taken.ensures.left c.in_ok-taken.ensures.in_range);
      told = c.in_ok-taken.ensures.fine ∙ so_far.told;
    }
