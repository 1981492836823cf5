use Rattle.std.proofs.Common.{◌≡◌, ◌∙◌, sym, subst, arith}
use Rattle.std.proofs.lemmas.Bool.Decides.{nat_tests}
use Rattle.rh_rule.specs.Seats.{InView}
use Rattle.rh_shared.specs.Crews.{IsQuiet}
use Rattle.rh_shared.proofs.Crews.{fresh_rows}
use Rattle.rh_crew.proofs.Seats.{alone_rests, both_quiet}
use Rattle.rh_crew.proofs.work.+all_work+fn-all_work-join+arg2+fn-all_work-join+arg3.Goals as goal

pub one_work-requires : goal.one_work-requires
one_work-requires g t c =
    let one : c.args.seat.count ≡ 1 = grind (arith, nat_tests) in
    alone_rests c.args.table.now c.args.seat c.requires.here c.requires.fresh one

pub split-second-requires-clause-rows : goal.split-second-requires-clause-rows
split-second-requires-clause-rows g t c = fresh_rows c.args.table.now.shape _ c.requires.fresh

pub returns : goal.returns
returns g t c =
    let cut = c.split-second.ensures.cut in
    let theirs = c.join-others.ensures.first in
    let ours = c.join-others.ensures.second in
    let joined = c.join.ensures.joined in record {
      here = c.join.ensures.here;
      first = joined.first ∙ ours.first ∙ cut.first;
      count = let a = joined.count in let b = ours.count in let d = theirs.count in let m = cut.middle in let e = cut.end in omega (arith, a, b, d, m, e);
      quiet = subst (InView IsQuiet) (sym joined.views) (both_quiet _ _ ours.quiet theirs.quiet);
    }
