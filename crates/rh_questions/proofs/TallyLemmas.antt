-- How many numbers stand in just these lists.
use Rattle.std.proofs.Common.{◌≡◌, ◌∙◌, ap, subst, sym, refl, ℕ, suc, ◌+◌, ◌^◌, ◌<◌, ◌≤◌, arith, Bool, true, false, cond, List, [], ◌∷◌, count_by, get_or, length, length-append}
use Rattle.std.specs.Prelude.{All, filter, map, slice_index, ◌==◌}
use Rattle.std.proofs.lemmas.List.{length-map}
use Rattle.std.proofs.lemmas.List.Sums.{sum_by-cons}
use Rattle.rh_layout.specs.Range.{stands, within}
use Rattle.rh_combine.specs.Combine.{has}
use Rattle.rh_combine.proofs.RangeLemmas.{within-none}
use Rattle.rh_combine_workers.specs.Questions.{IsByNumber}
use Rattle.rh_cutting.proofs.BorderLemmas.{rise_to}
use Rattle.rh_cutting.specs.Borders.{AreBorders, between, part_of}
use Rattle.rh_cutting.specs.Cut.{AreLists}
use Rattle.rh_cutting.specs.Pieces.{keys_in}
use Rattle.rh_cutting.specs.declared.list.KeyList.{KeyList}
use Rattle.rh_cutting.specs.declared.whole.CutLists.{CutLists}
use Rattle.rh_combine_workers.proofs.QuestionLemmas.{of_two}
use Rattle.rh_questions.specs.declared.rows.Row.{Row}
use Rattle.rh_questions.specs.ByNumber.{chosen_by_number}
use Rattle.rh_questions.specs.Rows.{AreRows, coded}
use Rattle.rh_questions.specs.Selections.{chosen, code, row_of}
use Rattle.rh_questions.specs.Tallies.{AreCounts, IsCount, combined, tally}
use Rattle.rh_questions.proofs.CodeLemmas.{coded_first, coded_fits}
use Rattle.rh_questions.proofs.RowLemmas.{lists_are, numbers_are}

-- so many rows have a combination as numbers have a row of that code
counted : (f : ℕ → ℕ) (c : ℕ) (rows : List Row) → All (λ r. r.lists ≡ f r.number) rows → count_by (λ (r : Row). r.lists == c) rows ≡ length (filter (λ k. f k == c) (map (λ r. r.number) rows))
counted f c [] all = refl
counted f c (row ∷ rows) all =
    let this : (row.lists == c) ≡ (f row.number == c) = ap (λ n. n == c) (all 0 row (omega arith)) in
    let later = counted f c rows (λ i d inside. all (suc i) d (omega (arith, inside))) in
    sum_by-cons (λ (r : Row). cond (r.lists == c) 1 0) row rows
    ∙ (λ j. cond (this j) 1 0 + later j)
    ∙ one_more (f row.number == c) (map (λ r. r.number) rows)
  where
    one_more : (b : Bool) (numbers : List ℕ) → cond b 1 0 + length (filter (λ k. f k == c) numbers) ≡ length (cond b (row.number ∷ filter (λ k. f k == c) numbers) (filter (λ k. f k == c) numbers))
    one_more true numbers = omega arith
    one_more false numbers = omega arith

module _ (lists : List (List ℕ)) (rows : List Row) (are : AreRows (λ k. coded 0 (row_of lists k)) rows) where
  codes_are : All (λ r. r.lists ≡ code (row_of lists r.number)) rows
  codes_are i d inside = lists_are lists rows are i d inside ∙ coded_first (row_of lists (get_or rows i d).number)

  pub rows_tallied : (c : ℕ) → count_by (λ (r : Row). r.lists == c) rows ≡ tally lists c
  rows_tallied c =
      counted (λ k. code (row_of lists k)) c rows codes_are
      ∙ ap (λ numbers. length (filter (λ k. code (row_of lists k) == c) numbers)) (numbers_are lists rows are)

  pub codes_below : All (λ r. r.lists < 2 ^ length lists) rows
  codes_below i d inside =
      let k : ℕ = (get_or rows i d).number in
      let many : 0 + length (row_of lists k) ≡ length lists = omega (arith, length-map lists (λ keys. has keys k)) in
      omega (arith, lists_are lists rows are i d inside, coded_fits (row_of lists k) 0, ap (λ n. 2 ^ n) many)

pub tallies_two : (a b c : ℕ) → a ≤ b → b ≤ c → (lists : List (List ℕ)) (x : ℕ) → tally (map (within a c) lists) x ≡ tally (map (within a b) lists) x + tally (map (within b c) lists) x
tallies_two a b c first second lists x =
    let test : List Bool → Bool = λ row. code row == x in
    let by = chosen_by_number test in
    ap length (by.of_part (stands a c) lists ∙ of_two (chosen test) by a b c first second lists)
    ∙ length-append (within a b (chosen test lists)) (within b c (chosen test lists))
    ∙ sym (λ j. length (by.of_part (stands a b) lists j) + length (by.of_part (stands b c) lists j))

-- ---- combinations, range by range

pub combined_by : (x : ℕ) → IsByNumber (λ lists. combined lists x)
combined_by x = chosen_by_number (λ row. code row == x)

pub combined_within : (a b : ℕ) (lists : List (List ℕ)) (x : ℕ) → combined (map (within a b) lists) x ≡ within a b (combined lists x)
combined_within a b lists x = (combined_by x).of_part (stands a b) lists

-- no part has a number
abbrev pub NoCounts : (counts : List ℕ) → (lists : ℕ) → Type 0
NoCounts counts lists = (c : ℕ) → c < 2 ^ lists → IsCount counts c 0

pub none_counted : (cut : CutLists) (p : ℕ) (counts : List ℕ) → length counts ≡ 2 ^ length cut.lists.items → NoCounts counts (length cut.lists.items) → AreCounts cut p p counts
none_counted cut p counts len none = record {
  len = len;
  each = λ lists are x inside.
      subst (IsCount counts x) (sym (ap length (within-none (slice_index cut.borders.values.items p) (combined lists x)))) (none x inside);
}

pub counted_two : (borders : List ℕ) → AreBorders borders → (p q r : ℕ) → p ≤ q → q ≤ r → r < length borders → (lists : List (List ℕ)) (x : ℕ)
    → length (between borders p r (combined lists x)) ≡ length (between borders p q (combined lists x)) + length (between borders q r (combined lists x))
counted_two borders are p q r first second inside lists x =
    let numbers = combined lists x in
    ap length (of_two (λ lists. combined lists x) (combined_by x) (slice_index borders p) (slice_index borders q) (slice_index borders r) (rise_to borders are p q first (omega (arith, second, inside))) (rise_to borders are q r second inside) lists)
    ∙ length-append (between borders p q numbers) (between borders q r numbers)

-- as many lists were cut as there are
pub as_many_cut : (lists : List KeyList) (cut : CutLists) → AreLists cut (map keys_in lists) → length (map keys_in lists) ≡ length cut.lists.items
as_many_cut lists cut are =
    let each = ap length (are.parts.each 0 (omega (arith, are.borders.some))) in
    omega (arith, each, length-map (map (λ l. l.items) cut.lists.items) (λ pieces. part_of pieces 0), length-map cut.lists.items (λ l. l.items), length-map (map keys_in lists) (between cut.borders.values.items 0 1))
