use Rattle.std.proofs.Common.{◌≡◌, ◌∙◌, ◌+◌, ◌/◌, ℕ, ap, arith, drop, length, take}
use Rattle.std.specs.Prelude.{map}
use Rattle.std.proofs.lemmas.Result.{IfOk-weaker}
use Rattle.rh_questions.specs.Rows.{coded, lists_of}
use Rattle.rh_questions.specs.Selections.{row_of}
use Rattle.rh_questions.proofs.RowLemmas.{both_coded, coded_few}
use Rattle.rh_questions.proofs.rows.+rows_of.Goals as goal

pub merge-requires-clause-fits : goal.merge-requires-clause-fits
merge-requires-clause-fits t c k =
    let lists = c.args.lists.now in
    let half : ℕ = length lists / 2 in
    let some : lists_of c.deref.result.now k ≡ coded c.args.place (row_of (map (λ l. l.now) (take half lists)) k) =
    ap (λ rows. lists_of rows k) c.deref.ensures.value ∙ c.in_ok-some.ensures.each k ∙ ap (λ ls. coded c.args.place (row_of (map (λ l. l.now) ls) k)) c.split_at.ensures.front in
    let others : lists_of c.deref-2.result.now k ≡ coded (c.args.place + half) (row_of (map (λ l. l.now) (drop half lists)) k) =
    ap (λ rows. lists_of rows k) c.deref-2.ensures.value ∙ c.in_ok-others.ensures.each k ∙ ap (λ ls. coded (c.args.place + half) (row_of (map (λ l. l.now) ls) k)) c.split_at.ensures.back in
    omega (arith, some, others, both_coded (λ l. l.now) lists half c.args.place (omega arith) k, coded_few (λ l. l.now) lists c.args.place k c.requires.few)

pub returns : goal.returns
returns t c =
    let lists = c.args.lists.now in
    let half : ℕ = length lists / 2 in
    let some : (k : ℕ) → lists_of c.deref.result.now k ≡ coded c.args.place (row_of (map (λ l. l.now) (take half lists)) k) = λ k.
    ap (λ rows. lists_of rows k) c.deref.ensures.value ∙ c.in_ok-some.ensures.each k ∙ ap (λ ls. coded c.args.place (row_of (map (λ l. l.now) ls) k)) c.split_at.ensures.front in
    let others : (k : ℕ) → lists_of c.deref-2.result.now k ≡ coded (c.args.place + half) (row_of (map (λ l. l.now) (drop half lists)) k) = λ k.
    ap (λ rows. lists_of rows k) c.deref-2.ensures.value ∙ c.in_ok-others.ensures.each k ∙ ap (λ ls. coded (c.args.place + half) (row_of (map (λ l. l.now) ls) k)) c.split_at.ensures.back in
    IfOk-weaker c.merge.result _ _
    (λ v are. record {
      rise = are.rise;
      each = λ k. are.each k ∙ (λ e. some k e + others k e) ∙ both_coded (λ l. l.now) lists half c.args.place (omega arith) k;
    }) c.merge.ensures
