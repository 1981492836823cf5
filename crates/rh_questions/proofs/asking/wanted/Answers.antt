use Rattle.std.proofs.Common.{◌≡◌, ◌∙◌, ◌++◌, ◌∷◌, ◌+◌, ◌<◌, ℕ, Bool, List, [], ap, append-nil, arith, cond, get_or, length, rules, sym, take}
use Rattle.std.specs.Prelude.{filter, map}
use Rattle.std.proofs.lemmas.List.{take_all}
use Rattle.rh_questions.specs.declared.rows.Row.{Row}
use Rattle.rh_questions.specs.Selections.{row_of, wants}
use Rattle.rh_questions.proofs.CodeLemmas.{coded_first}
use Rattle.rh_questions.proofs.RowLemmas.{lists_are, numbers_are, one_chosen}
use Rattle.rh_questions.proofs.asking.wanted.Goals as goal
use Rattle.rh_questions.proofs.asking.wanted.Goals.{then-wants+in_ok-push, else-wants}

pub loop-row-preserved : goal.loop-row-preserved
loop-row-preserved c lists are =
    let rows = c.args.rows.now in
    let i = c.loop-row.row-index in
    let none : Row = record { number = 0; lists = 0 } in
    let test : ℕ → Bool = λ k. wants c.args.selection.now (row_of lists k) in
    let there : i < length rows = omega (arith, c.loop-row-test.true) in
    let truth : c.wants.result ≡ test (get_or rows i none).number = c.wants.ensures (row_of lists (get_or rows i none).number) (lists_are lists rows are i none there ∙ coded_first (row_of lists (get_or rows i none).number)) in
    let number : ℕ = (get_or rows i none).number in
    let chosen : List ℕ = filter test (map (λ r. r.number) (take i rows)) in
    let before : c.loop-row.numbers.items ≡ chosen = c.loop-row.invariant lists are in
    let more : filter test (map (λ r. r.number) (take (i + 1) rows)) ≡ chosen ++ cond (test number) (number ∷ []) [] = one_chosen test rows i none there in
    elim c.if-wants.branch [
      | then-wants+in_ok-push w ↦
          let pushed : w.push.new.self.items ≡ c.loop-row.numbers.items ++ number ∷ [] = search rules in
          ap (λ v. v.items) w.numbers-is ∙ pushed ∙ ap (λ l. l ++ number ∷ []) before
          ∙ ap (λ b. chosen ++ cond b (number ∷ []) []) (sym (sym truth ∙ w.if-wants.true)) ∙ sym more
      | else-wants w ↦
          ap (λ v. v.items) w.numbers-is ∙ before ∙ sym (append-nil chosen)
          ∙ ap (λ b. chosen ++ cond b (number ∷ []) []) (sym (sym truth ∙ w.if-wants.false)) ∙ sym more
    ]

pub returns : goal.returns
returns c lists are =
    c.loop-row.invariant lists are
    ∙ ap (λ rows. filter (λ k. wants c.args.selection.now (row_of lists k)) (map (λ r. r.number) rows)) (take_all c.loop-row.row-index c.args.rows.now (omega (arith, c.loop-row-test.false)))
    ∙ ap (filter (λ k. wants c.args.selection.now (row_of lists k))) (numbers_are lists c.args.rows.now are)
