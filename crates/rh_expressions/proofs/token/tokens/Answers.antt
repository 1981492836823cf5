use Rattle.std.proofs.Common.{◌∙◌, ◌++◌, ◌∷◌, false, [], ◌+◌, ◌-◌, ap, arith, cond, drop, sym}
use Rattle.std.specs.Prelude.{get_or, length, map, string_bytes}
use Rattle.std.proofs.lemmas.List.{append-nil, length-drop, take_all}
use Rattle.rh_expressions.specs.Tokens.{is_of_name, kind_at, tokens_of}
use Rattle.rh_expressions.proofs.TokenLemmas.{one_token}
use Rattle.rh_expressions.proofs.token.tokens.Goals as goal
use Rattle.rh_expressions.proofs.token.tokens.Goals.{then-begins+in_ok-push, else-begins}

pub loop-at-preserved : goal.loop-at-preserved
loop-at-preserved c =
    let names = map string_bytes c.args.names.now in
    let text = c.as_bytes-text.result.now in
    let at = c.loop-at.at in
    let before = c.loop-at.tokens.items in
    let byte = get_or text at 0 in
    let step = one_token names text at c.loop-at.in_name (tokens_of names 0 false text) before c.loop-at-test.true c.loop-at.invariant in
    let goes_on = ap (λ i. c.if-begins.tokens.items ++ tokens_of names (at + 1) i (drop (at + 1) text)) (sym c.is_of_name-in_name.ensures) in
    step
    ∙ ap (λ l. l ++ tokens_of names (at + 1) (is_of_name byte) (drop (at + 1) text))
    (elim c.if-begins.branch [
      | then-begins+in_ok-push w ↦
          ap (λ b. before ++ cond b (record { at = at; kind = kind_at names (drop at text) } ∷ []) []) (sym c.begins.ensures ∙ w.if-begins.true)
          ∙ ap (λ t. before ++ record { at = at; kind = kind_at names t } ∷ []) (sym (take_all (length text - at) (drop at text) (omega (arith, length-drop at text))))
          ∙ ap (λ k. before ++ record { at = at; kind = k } ∷ []) (sym w.kind_at-kind.ensures) ∙ sym w.in_ok-push.ensures.items ∙ ap (λ t. t.items) (sym w.tokens-is)
      | else-begins w ↦ ap (λ b. before ++ cond b (record { at = at; kind = kind_at names (drop at text) } ∷ []) []) (sym c.begins.ensures ∙ w.if-begins.false) ∙ append-nil before ∙ ap (λ t. t.items) (sym w.tokens-is)
    ])
    ∙ goes_on
