use Rattle.std.proofs.Common.{◌∙◌, ◌≤◌, arith, subst, sym}
use Rattle.std.specs.Prelude.{IfOk}
use Rattle.rh_questions.specs.Tallies.{AreCounts, IsCount}
use Rattle.rh_questions.proofs.TallyLemmas.{counted_two}
use Rattle.rh_questions.proofs.counting.+halves.Goals as goal

pub returns : goal.returns
returns g bound c =
    let cut = c.args.cut.now in
    let at = c.min-at.result in
    let on : c.args.from ≤ at = omega (arith, c.min-at.ensures, c.saturating_add.ensures, c.requires.order) in
    let before = subst (λ r. IfOk r (λ v. AreCounts cut c.args.from at v.items)) c.in_ok-counts.was c.both-before.ensures.first in
    let behind = subst (λ r. IfOk r (λ v. AreCounts cut at c.args.to v.items)) c.in_ok-more.was c.both-before.ensures.second in
    record {
      len = c.add.ensures.len ∙ before.len;
      each = λ lists are x inside.
          subst (IsCount c.add.new.counts.items x)
          (sym (counted_two cut.borders.values.items are.borders c.args.from at c.args.to on (omega (arith, c.min-at.ensures)) c.requires.inside lists x))
          (c.add.ensures.sums x _ _ (omega (arith, inside, before.len)) (before.each lists are x inside) (rw c.deref.ensures.value (behind.each lists are x inside)));
    }
