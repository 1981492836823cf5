-- The chosen keys of a list.
use Rattle.std.proofs.Common.{◌≡◌, ℕ, ◌+◌, ◌<◌, sym, ap, ◌∙◌, arith, Bool, true, false, List, length, get_or}
use Rattle.std.specs.FinSet.{contains}
use Rattle.std.proofs.Math.ListN.{set}
use Rattle.std.proofs.lemmas.List.{drop_more, get_or-map, get_or_default}
use Rattle.std.proofs.lemmas.List.Filters.{FiltersInPlace, FiltersInPlace-more_no, FiltersInPlace-more_set}
use Rattle.rh_layout.specs.Layout.{Keys}
use Rattle.rh_ledger.specs.Phase.{looked_up}
use Rattle.rh_runner.specs.declared.chosen.Chosen.{Chosen}
use Rattle.rh_runner.specs.Lists.{is_chosen}

module _ (which : Chosen) (S : Keys) where
  abbrev chooses : ℕ → Bool
  chooses k = is_chosen which (contains S k)

  -- ---- the chosen keys of a batch, moved to its front

  module _ (xs ys : List ℕ) (found : List Bool) (n i : ℕ) (b : Bool) (moved : FiltersInPlace chooses xs ys n i) (inside : i < length xs) (answers : found ≡ looked_up S xs) (test : is_chosen which (get_or found i false) ≡ b) where
    in_ys : i < length ys
    in_ys = omega (arith, moved.long)

    same_key : get_or ys i 0 ≡ get_or xs i 0
    same_key = ap (λ l. get_or l 0 0) (sym (drop_more ys i 0 in_ys) ∙ moved.rest ∙ drop_more xs i 0 inside)

    tested : chooses (get_or ys i 0) ≡ b
    tested =
        ap chooses same_key
        ∙ ap (is_chosen which) (sym (ap (λ l. get_or l i false) answers ∙ get_or-map (contains S) xs i 0 false inside))
        ∙ test

    pub moves_more : (zs : List ℕ) (m : ℕ) → b ≡ true → zs ≡ set ys n (get_or ys i 0) → m ≡ n + 1 → FiltersInPlace chooses xs zs m (i + 1)
    moves_more zs m chose zs-is m-is = rw (zs-is, m-is) (FiltersInPlace-more_set moved in_ys (tested ∙ chose) (get_or_default ys i 0 (get_or ys i 0) in_ys))

    pub moves_none : (zs : List ℕ) (m : ℕ) → b ≡ false → zs ≡ ys → m ≡ n → FiltersInPlace chooses xs zs m (i + 1)
    moves_none zs m passed zs-is m-is = rw (zs-is, m-is) (FiltersInPlace-more_no moved in_ys (tested ∙ passed) (get_or_default ys i 0 (get_or ys i 0) in_ys))
