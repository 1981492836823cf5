use Rattle.std.proofs.Common.{◌≡◌, ◌∙◌, ◌+◌, ◌<◌, length, ap, arith, inl, inr, sym, slice_index}
use Rattle.std.specs.Prelude.{◌==◌}
use Rattle.std.proofs.lemmas.Bool.{cases_eq}
use Rattle.std.proofs.lemmas.List.{take_all}
use Rattle.rh_cutting.specs.Borders.{between}
use Rattle.rh_cutting.proofs.BorderLemmas.{part_is}
use Rattle.rh_cutting.proofs.CutLemmas.{key_elsewhere, key_more}
use Rattle.rh_cutting.proofs.cut.cut_piece.Goals as goal

pub loop-i-preserved : goal.loop-i-preserved
loop-i-preserved c =
    let i = c.loop-i.i in
    let numbers = c.in_ok-numbers.numbers.items in
    let n = c.from.result in
    let before = c.loop-i.invariant in
    let is : n ≡ slice_index numbers i = c.from.ensures ∙ ap (λ l. slice_index l i) c.deref-number-items.ensures.value in
    let inside_keys : i < length c.args.keys.now = omega (arith, c.in_ok-numbers.ensures.many) in
    record {
      many = omega (arith, before.many, c.put.ensures.len);
      each = λ p inside.
          let part = part_is c.args.borders.now.values.items c.args.borders.now.are (slice_index numbers i) (slice_index c.args.keys.now i) (c.in_ok-numbers.ensures.each i inside_keys) p (omega (arith, inside, before.many, c.put.ensures.len)) ∙ ap (λ m. m == p) (sym is) in
          elim (cases_eq p n) [
            | inl here ↦ key_more c.args.borders.now.values.items c.args.keys.now i n p inside_keys part _ _ here (before.each p (omega (arith, inside, c.put.ensures.len))) (rw here c.in_ok-put.ensures.there)
            | inr there ↦ key_elsewhere c.args.borders.now.values.items c.args.keys.now i n p inside_keys part _ _ there (before.each p (omega (arith, inside, c.put.ensures.len))) (c.put.ensures.others p there)
          ];
    }

pub returns : goal.returns
returns c =
    record {
      many = c.loop-i.invariant.many;
      each = λ p inside. c.loop-i.invariant.each p inside ∙ ap (between c.args.borders.now.values.items p (p + 1)) (take_all c.loop-i.i c.args.keys.now (omega (arith, c.in_ok-numbers.ensures.many)));
    }
