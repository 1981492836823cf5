-- Which parts there are, and what stands in a part of a list.
use Rattle.std.proofs.Common.{◌≡◌, ◌∙◌, ap, sym, refl, ℕ, zero, suc, ◌*◌, ◌^◌, ◌%◌, ◌/◌, ◌<◌, ◌≤◌, Bool, true, List, [], ◌∷◌, inl, inr, arith}
use Rattle.std.specs.Prelude.{filter}
use Rattle.std.specs.List.{Contains}
use Rattle.std.proofs.Math.Nat.{mod-lt, mul-le-mul_right, mul-lt-mul_of_pos_right}
use Rattle.std.proofs.lemmas.Nat.{pow_pos}
use Rattle.std.proofs.lemmas.Bool.{cases_Bool, eq-eqb, eqb-true}
use Rattle.rh_parts.specs.Parts.{in_part, mixed, part_of, stands_in}

-- so many pieces of the range of 32 bits are a number of 64
pub fits : (place parts : ℕ) → parts ≤ 1000 → place % 2 ^ 32 * parts < 2 ^ 64
fits place parts few =
    let less : place % 2 ^ 32 * parts ≤ 2 ^ 32 * parts = mul-le-mul_right parts (omega (arith, mod-lt place (pow_pos 32))) in
    omega (arith, less, few)

-- a piece of a range that is cut into as many pieces
piece_below : (parts place : ℕ) → 0 < parts → place < 2 ^ 32 → place * parts / 2 ^ 32 < parts
piece_below parts place some below =
    let less : place * parts < 2 ^ 32 * parts = mul-lt-mul_of_pos_right below some in
    omega (arith, less)

pub part_below : (parts key : ℕ) → 0 < parts → part_of parts key < parts
unfolding part_of
part_below parts key some = piece_below parts (mixed key % 2 ^ 32) some (mod-lt (mixed key) (pow_pos 32))

pub ruleset is_part = (part_below, fits)

module _ (passes : ℕ → Bool) where
  behind : (y : ℕ) (ys : List ℕ) (x : ℕ) → Contains ys x → Contains (y ∷ ys) x
  behind y ys x (k, inside, is) = (suc k, omega (arith, inside), is)

  stays : (xs : List ℕ) (x : ℕ) → passes x ≡ true → Contains xs x → Contains (filter passes xs) x
  stays [] x let_in (k, inside, is) = absurd (omega (arith, inside))
  stays (y ∷ ys) x let_in (zero, inside, is) = rw (ap passes is ∙ let_in) (zero, omega arith, is)
  stays (y ∷ ys) x let_in (suc k, inside, is) =
      let later = stays ys x let_in (k, omega (arith, inside), is) in
      elim (cases_Bool (passes y)) [
        | inl this_too ↦ rw this_too (behind y (filter passes ys) x later)
        | inr left_out ↦ rw left_out later
      ]

  comes : (xs : List ℕ) (x : ℕ) → Contains (filter passes xs) x → Contains xs x × (passes x ≡ true)
  comes [] x (k, inside, is) = absurd (omega (arith, inside))
  comes (y ∷ ys) x there =
      elim (cases_Bool (passes y)) [
        | inl let_in ↦ first_or_later y ys x let_in (comes ys x) (rw let_in at there)
        | inr left_out ↦ let before = comes ys x (rw left_out at there) in (behind y ys x before.0, before.1)
      ]
    where
      first_or_later : (y : ℕ) (ys : List ℕ) (x : ℕ) → passes y ≡ true → (Contains (filter passes ys) x → Contains ys x × (passes x ≡ true)) → Contains (y ∷ filter passes ys) x → Contains (y ∷ ys) x × (passes x ≡ true)
      first_or_later y ys x let_in others (zero, inside, is) = ((zero, omega arith, is), sym (ap passes is) ∙ let_in)
      first_or_later y ys x let_in others (suc k, inside, is) = let before = others (k, omega (arith, inside), is) in (behind y ys x before.0, before.1)

pub stands_there : (parts : ℕ) (keys : List ℕ) (k : ℕ) → Contains keys k → Contains (in_part parts (part_of parts k) keys) k
stands_there parts keys k there = stays (stands_in parts (part_of parts k)) keys k (eq-eqb (part_of parts k) (part_of parts k) refl) there

pub stands_nowhere_else : (parts part : ℕ) (keys : List ℕ) (k : ℕ) → Contains (in_part parts part keys) k → Contains keys k × (part_of parts k ≡ part)
stands_nowhere_else parts part keys k there =
    let before = comes (stands_in parts part) keys k there in
    (before.0, eqb-true (part_of parts k) part before.1)
