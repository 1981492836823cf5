use Rattle.std.proofs.Common.{◌≡◌, ◌+◌, ◌-◌, ◌++◌, [], ◌∷◌, length, take, get_or, ap, sym, ◌∙◌, rules, arith}
use Rattle.std.proofs.lemmas.List.{take_more}
use Rattle.rh_numbers.specs.declared.excerpt.TheConstants.{HELD_BYTES}
use Rattle.rh_numbers.specs.Excerpt.{without_return}
use Rattle.rh_numbers.proofs.Excerpts.{none_dropped, return_dropped}
use Rattle.rh_numbers.proofs.excerpt.Excerpt.without_return.Goals as goal
use Rattle.rh_numbers.proofs.excerpt.Excerpt.without_return.Goals.{then-length-eq0-via-then-length-eq0, then-length-eq0-via-else-length-eq0+then-bytes-length-ne13}

pub returns-then-length-eq0 : goal.returns-then-length-eq0
returns-then-length-eq0 c =
    let e = c.args.self in
    elim c.then-length-eq0.branch [
      | then-length-eq0-via-then-length-eq0 w ↦ ap (λ n. take n e.bytes) w.if-length-eq0.true ∙ sym (ap (λ n. without_return (take n e.bytes)) w.if-length-eq0.true)
      | then-length-eq0-via-else-length-eq0+then-bytes-length-ne13 w ↦
          let size : length e.bytes ≡ HELD_BYTES = search rules in
          let place : e.length - 1 + 1 ≡ e.length = omega (arith, w.if-length-eq0.false) in
          let whole : take e.length e.bytes ≡ take (e.length - 1) e.bytes ++ get_or e.bytes (e.length - 1) 0 ∷ [] =
          ap (λ n. take n e.bytes) (sym place) ∙ take_more e.bytes (e.length - 1) 0 (omega (arith, w.if-length-eq0.false, size, e.within)) in
          whole ∙ sym (ap without_return whole ∙ none_dropped (take (e.length - 1) e.bytes) (get_or e.bytes (e.length - 1) 0) w.if-bytes-length-ne13.true)
    ]

pub returns : goal.returns
returns c =
    let e = c.args.self in
    let size : length e.bytes ≡ HELD_BYTES = search rules in
    let place : e.length - 1 + 1 ≡ e.length = omega (arith, c.if-length-eq0.false) in
    let last : get_or e.bytes (e.length - 1) 0 ≡ 13 = search rules in
    let whole : take e.length e.bytes ≡ take (e.length - 1) e.bytes ++ 13 ∷ [] =
    ap (λ n. take n e.bytes) (sym place) ∙ take_more e.bytes (e.length - 1) 0 (omega (arith, c.if-length-eq0.false, size, e.within)) ∙ ap (λ b. take (e.length - 1) e.bytes ++ b ∷ []) last in
    sym (ap without_return whole ∙ return_dropped (take (e.length - 1) e.bytes))
