use Rattle.std.proofs.Common.{◌≡◌, ◌∙◌, ◌≤◌, ◌^◌, ap, arith, length, subst, sym}
use Rattle.rh_questions.specs.Tallies.{IsCount}
use Rattle.rh_questions.proofs.TallyLemmas.{NoCounts, counted_two, none_counted}
use Rattle.rh_questions.proofs.counting.count_all.Goals as goal

pub loop-first-init : goal.loop-first-init
loop-first-init g c =
    let many : c.len.result ≡ length c.args.cut.now.lists.items = omega (arith, c.len.ensures) in
    record { inside = omega arith; counts = none_counted c.args.cut.now 0 c.in_ok-counts.counts.items (c.in_ok-counts.ensures.len ∙ ap (λ n. 2 ^ n) many) (subst (NoCounts c.in_ok-counts.counts.items) many c.in_ok-counts.ensures.none) }

pub loop-first-preserved : goal.loop-first-preserved
loop-first-preserved g c =
    let next = c.min-next.result in
    let borders = c.args.cut.now.borders.values.items in
    let on : c.loop-first.first ≤ next = omega (arith, c.min-next.ensures, c.saturating_add.ensures, c.loop-first.invariant.inside) in
    let within : next ≤ c.parts-parts.result = omega (arith, c.min-next.ensures) in
    record {
      inside = within;
      counts = record {
        len = c.add.ensures.len ∙ c.loop-first.invariant.counts.len;
        each = λ lists are x inside.
            subst (IsCount c.add.new.counts.items x)
            (sym (counted_two borders are.borders 0 c.loop-first.first next (omega arith) on (omega (arith, within, c.parts-parts.ensures)) lists x))
            (c.add.ensures.sums x _ _ (omega (arith, inside, c.loop-first.invariant.counts.len)) (c.loop-first.invariant.counts.each lists are x inside) (rw c.deref.ensures.value (c.in_ok-more.ensures.each lists are x inside)));
      };
    }
