use Rattle.std.proofs.Common.{◌≡◌, ◌∙◌, ◌+◌, ◌^◌, ap, arith, length, subst, sym}
use Rattle.rh_questions.specs.Tallies.{IsCount}
use Rattle.rh_questions.proofs.TallyLemmas.{NoCounts, counted_two, none_counted}
use Rattle.rh_questions.proofs.counting.count_parts.Goals as goal

pub loop-part-init : goal.loop-part-init
loop-part-init c =
    let many : c.len.result ≡ length c.args.cut.now.lists.items = omega (arith, c.len.ensures) in
    none_counted c.args.cut.now c.args.from c.in_ok-counts.counts.items (c.in_ok-counts.ensures.len ∙ ap (λ n. 2 ^ n) many) (subst (NoCounts c.in_ok-counts.counts.items) many c.in_ok-counts.ensures.none)

pub loop-part-preserved : goal.loop-part-preserved
loop-part-preserved c =
    let part = c.loop-part.part in
    record {
      len = c.in_ok-count_part.ensures.len ∙ c.loop-part.invariant.len;
      each = λ lists are x inside.
          subst (IsCount c.count_part.new.counts.items x)
          (sym (counted_two c.args.cut.now.borders.values.items are.borders c.args.from part (part + 1) (omega arith) (omega arith) (omega arith) lists x))
          (c.in_ok-count_part.ensures.counts lists are x _ (omega (arith, inside, c.loop-part.invariant.len)) (c.loop-part.invariant.each lists are x inside));
    }
