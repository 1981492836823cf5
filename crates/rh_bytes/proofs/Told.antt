-- Which faults a reading may tell.
use Rattle.std.proofs.Common.{ℕ, List, [], ◌∷◌, Result, Ok, Err, inl, inr}
use Rattle.std.specs.Prelude.{IfErr}
use Rattle.std.proofs.lemmas.Bool.{cases_Bool}
use Rattle.rh_bytes.specs.Input.{◌>>=◌, begins_with_bytes, bytes_at, end_at, number_at, number_in}

module _ {E : Type 0} (May : E → Type 0) where
  pub then_told : {A B : Type 0} (r : Result A E) (f : A → Result B E) → IfErr r May → ((x : A) → IfErr (f x) May) → IfErr (r >>= f) May
  then_told (Ok x) f first next = next x
  then_told (Err e) f first next = first

  module _ (fault : E) (may : May fault) where
    pub bytes_told : (n : ℕ) (bytes : List ℕ) → IfErr (bytes_at fault n bytes) May
    unfolding bytes_at
    bytes_told n bytes = elim (cases_Bool (begins_with_bytes n bytes)) [ inl there ↦ rw there tt | inr other ↦ rw other may ]

    pub number_told : (bytes : List ℕ) → IfErr (number_at fault bytes) May
    unfolding number_at
    number_told bytes = then_told (bytes_at fault 8 bytes) number_in (bytes_told 8 bytes) (λ eight. tt)

    pub end_told : (bytes : List ℕ) → IfErr (end_at fault bytes) May
    unfolding end_at
    end_told [] = tt
    end_told (b ∷ bytes) = may
