use mir.Val.{bool_byte}
use Rattle.std.proofs.Common.{◌≡◌, ◌∙◌, ◌++◌, ◌∷◌, ◌+◌, ◌<◌, ◌⊎◌, ◌==◌, Bool, true, false, [], ap, cond, arith, inl, inr, length, refl, rules}
use Rattle.rh_questions.specs.declared.rows.Row.{Row}
use Rattle.rh_questions.proofs.MergeLemmas.{all_merged, next_fits, none_merged, one_merged}
use Rattle.rh_questions.proofs.rows.merge.Goals as goal
use Rattle.rh_questions.proofs.rows.merge.Goals.{then-i-some, else-i-some+then-j-others}

as_number : (b : Bool) → bool_byte b ≡ cond b 1 0
as_number true = refl
as_number false = refl

pub loop-i-init : goal.loop-i-init
loop-i-init c = rw c.in_ok-all.ensures.items (none_merged c.args.some.now c.args.others.now)

pub overflow_add-lists : goal.overflow_add-lists
overflow_add-lists c =
    let left : (c.loop-i.i < length c.args.some.now) ⊎ (c.loop-i.j < length c.args.others.now) =
    elim c.if-i-some.branch [ then-i-some w ↦ inl w.if-i-some.true | else-i-some+then-j-others w ↦ inr w.if-j-others.true ] in
    let fits = next_fits c.args.some.now c.args.others.now c.requires.some c.requires.others c.loop-i.i c.loop-i.j c.loop-i.all.items c.loop-i.invariant left
    c.head-first.result c.head-second.result c.head-first.ensures c.head-second.ensures c.min-number.result c.min-number.ensures
    c.requires.fits c.lists_at.result c.lists_at-in-loop-i.result c.lists_at.ensures c.lists_at-in-loop-i.ensures in
    omega (arith, fits)

pub loop-i-preserved : goal.loop-i-preserved
loop-i-preserved c =
    let left : (c.loop-i.i < length c.args.some.now) ⊎ (c.loop-i.j < length c.args.others.now) =
    elim c.if-i-some.branch [ then-i-some w ↦ inl w.if-i-some.true | else-i-some+then-j-others w ↦ inr w.if-j-others.true ] in
    let row : Row = record { number = c.min-number.result; lists = c.lists_at.result + c.lists_at-in-loop-i.result } in
    let more : c.push.new.self.items ≡ c.loop-i.all.items ++ row ∷ [] = search rules in
    rw more
    (one_merged c.args.some.now c.args.others.now c.requires.some c.requires.others c.loop-i.i c.loop-i.j c.loop-i.all.items c.loop-i.invariant left
    c.head-first.result c.head-second.result c.head-first.ensures c.head-second.ensures c.min-number.result c.min-number.ensures
    row refl (λ e. c.lists_at.ensures e + c.lists_at-in-loop-i.ensures e)
    (c.loop-i.i + c.from-i.result) (c.loop-i.j + c.from-j.result) (ap (λ n. c.loop-i.i + n) (c.from-i.ensures ∙ as_number (c.head-first.result.number == c.min-number.result))) (ap (λ n. c.loop-i.j + n) (c.from-j.ensures ∙ as_number (c.head-second.result.number == c.min-number.result))))

pub returns : goal.returns
returns c = record {
  rise = c.loop-i.invariant.rise;
  each = all_merged c.args.some.now c.args.others.now c.loop-i.i c.loop-i.j c.loop-i.all.items c.loop-i.invariant (omega arith) (omega arith);
}
