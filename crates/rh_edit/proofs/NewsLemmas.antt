-- The values of a segment's news, cell by cell.
use Rattle.std.proofs.Common.{◌≡◌, ℕ, ◌+◌, ◌-◌, ◌<◌, ◌≤◌, sym, ap, ◌∙◌, arith, List, length, take, get_or, get_or-take, length-take}
use Rattle.std.specs.List.{remove}
use Rattle.std.proofs.lemmas.Grind.{same_number_lists}
use Rattle.std.proofs.lemmas.List.Edits.{get_or-insert_below, get_or-insert_at, get_or-insert_above, length-insert, get_or-remove_below, get_or-remove_above, length-remove}
use Rattle.rh_edit.specs.News.{inserted_at, shifted_back}

module _ (value : ℕ) (seen : List ℕ) (at : ℕ) (inside : at < length seen) where
  front : List ℕ
  front = take (length seen - 1) seen

  front_len : length (take (length seen - 1) seen) + 1 ≡ length seen
  front_len = omega (arith, length-take (length seen - 1) seen)

  pub inserted_at_len : length (inserted_at value seen at) ≡ length seen
  inserted_at_len = length-insert (take (length seen - 1) seen) at value (omega (arith, front_len)) ∙ front_len

  pub inserted_at_below : (i : ℕ) → i < at → get_or seen i 0 ≡ get_or (inserted_at value seen at) i 0
  inserted_at_below i less =
      let l : i < length seen - 1 = omega arith in
      sym (get_or-insert_below (take (length seen - 1) seen) at value 0 i less (omega (arith, front_len)) ∙ get_or-take (length seen - 1) seen i 0 l)

  pub inserted_at_at : (i : ℕ) → i ≡ at → value ≡ get_or (inserted_at value seen at) i 0
  inserted_at_at i e = sym (ap (λ m. get_or (inserted_at value seen at) m 0) e ∙ get_or-insert_at (take (length seen - 1) seen) at value 0 (omega (arith, front_len)))

  pub inserted_at_above : (i : ℕ) → at < i → i < length seen → get_or seen (i - 1) 0 ≡ get_or (inserted_at value seen at) i 0
  inserted_at_above i more in' =
      let l : i - 1 < length seen - 1 = omega arith in
      let e : i ≡ (i - 1) + 1 = omega arith in
      sym (ap (λ m. get_or (inserted_at value seen at) m 0) e ∙ get_or-insert_above (take (length seen - 1) seen) at value 0 (i - 1) (omega arith) (omega (arith, front_len)) ∙ get_or-take (length seen - 1) seen (i - 1) 0 l)

pub ruleset inserted_list = (inserted_at_len, same_number_lists)

pub ruleset inserted_values = (inserted_at_below, inserted_at_at, inserted_at_above)

module _ (seen : List ℕ) (at : ℕ) (inside : at + 1 < length seen) where
  rest_len : length (remove seen at) + 1 ≡ length seen
  rest_len = length-remove seen at (omega arith)

  pub shifted_back_len : length (shifted_back seen at) ≡ length seen
  shifted_back_len = length-insert (remove seen at) (length seen - 2) 0 (omega (arith, rest_len)) ∙ rest_len

  pub shifted_back_below : (i : ℕ) → i < at → get_or seen i 0 ≡ get_or (shifted_back seen at) i 0
  shifted_back_below i less = sym (get_or-insert_below (remove seen at) (length seen - 2) 0 0 i (omega arith) (omega (arith, rest_len)) ∙ get_or-remove_below seen at 0 i less (omega arith))

  pub shifted_back_moved : (i : ℕ) → at ≤ i → i + 2 < length seen → get_or seen (i + 1) 0 ≡ get_or (shifted_back seen at) i 0
  shifted_back_moved i from below = sym (get_or-insert_below (remove seen at) (length seen - 2) 0 0 i (omega arith) (omega (arith, rest_len)) ∙ get_or-remove_above seen at 0 i from (omega arith))

  pub shifted_back_cleared : (i : ℕ) → i + 2 ≡ length seen → 0 ≡ get_or (shifted_back seen at) i 0
  shifted_back_cleared i e =
      let is : i ≡ length seen - 2 = omega arith in
      sym (ap (λ m. get_or (shifted_back seen at) m 0) is ∙ get_or-insert_at (remove seen at) (length seen - 2) 0 0 (omega (arith, rest_len)))

  pub shifted_back_last : (i : ℕ) → i + 1 ≡ length seen → get_or seen i 0 ≡ get_or (shifted_back seen at) i 0
  shifted_back_last i e =
      let is : i ≡ (length seen - 2) + 1 = omega arith in
      sym (ap (λ m. get_or (shifted_back seen at) m 0) is ∙ get_or-insert_above (remove seen at) (length seen - 2) 0 0 (length seen - 2) (omega arith) (omega (arith, rest_len)) ∙ get_or-remove_above seen at 0 (length seen - 2) (omega arith) (omega arith) ∙ ap (λ m. get_or seen m 0) (sym is))

pub ruleset shifted_list = (shifted_back_len, same_number_lists)

pub ruleset shifted_values = (shifted_back_below, shifted_back_moved, shifted_back_cleared, shifted_back_last)
