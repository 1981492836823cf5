-- A set has one layout with a free cell.
use Rattle.std.proofs.Common.{◌≡◌, ℕ, ◌^◌, sym, ◌∙◌, arith, List}
use Rattle.std.proofs.lemmas.Grind.{same_number_lists}
use Rattle.rh_layout.specs.Key.{key_in}
use Rattle.rh_layout.specs.Order.{home_in}
use Rattle.rh_layout.specs.Layout.{Keys, Layout, HasFree}
use Rattle.rh_layout.proofs.LayoutLemmas.{at, low_in, holds_its, layout_ordered}
use Rattle.rh_layout.proofs.CountLemmas.{count_of_layout, count_from_free, free_from_count}
use Rattle.rh_layout.proofs.UniqueLemmas.{IsAmong, same_cells}

among : (xs ys : List ℕ) (b : ℕ) (S : Keys) → Layout xs b S → Layout ys b S → IsAmong (2 ^ b) (at xs) (at ys)
among xs ys b S p q c c_in some =
    let its = holds_its b xs c (omega (arith, p.size)) some in
    let there = q.held (key_in (at xs c)) (p.no_other c (key_in (at xs c)) its) in
    (there.0, omega (arith, there.1.0, q.size), there.1.1 ∙ sym its.1)

both_free : (xs ys : List ℕ) (b : ℕ) (S : Keys) → Layout xs b S → Layout ys b S → HasFree xs → HasFree ys → xs ≡ ys
both_free xs ys b S p q free_x free_y =
    same_number_lists xs ys (p.size ∙ sym q.size)
    (λ e e_in. same_cells (2 ^ b) (home_in b) (at xs) (at ys) (low_in b p.bits) (layout_ordered xs b S p) (layout_ordered ys b S q) free_x.0 free_y.0 (omega (arith, free_x.1, p.size)) (omega (arith, free_y.1, q.size)) free_x.2 free_y.2 (among xs ys b S p q) (among ys xs b S q p) e (omega (arith, p.size)))

-- Two layouts of one set are equal where one of them has a free cell: then the other has one too.
pub one_layout_of : (xs ys : List ℕ) (b : ℕ) (S : Keys) → Layout xs b S → Layout ys b S → HasFree xs → xs ≡ ys
one_layout_of xs ys b S p q free =
    let less = count_from_free xs free.0 free.1 free.2 in
    both_free xs ys b S p q free (free_from_count ys (omega (arith, count_of_layout xs b S p, count_of_layout ys b S q, p.size, q.size)))
