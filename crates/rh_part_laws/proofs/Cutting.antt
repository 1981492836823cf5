-- Sets and lists of which those keys are kept that pass a test, such as those of one part.
use Rattle.std.proofs.Common.{◌≡◌, ◌∙◌, ap, sym, refl, ℕ, Bool, true, false, List, [], ◌∷◌, inl, inr}
use Rattle.std.specs.Prelude.{filter, not, ◌&&◌, ◌||◌, ◌==◌}
use Rattle.std.proofs.lemmas.Bool.{cases_Bool, eqb-true}
use Rattle.std.specs.Ordering.{nat_cmp}
use Rattle.std.specs.FinSet as set
use Rattle.std.specs.FinSet.{contains, contains-empty}
use Rattle.rh_layout.specs.Layout.{Keys}
use Rattle.rh_ledger.specs.declared.tally.Kind.TheVariants.{Insert, Remove}
use Rattle.rh_ledger.specs.Phase.{set_after}
use Rattle.rh_runner.specs.declared.chosen.Chosen.{Chosen}
use Rattle.rh_runner.specs.declared.chosen.Chosen.TheVariants.{Absent, Present}
use Rattle.rh_runner.specs.Lists.{chosen, is_chosen}
use Rattle.rh_operations.specs.Sets.{flipped, kept}
use Rattle.rh_combine.proofs.Meaning.{holds, or_and, or_none, out, put, same}

not_and : (e c p : Bool) → ((not e && c) && p) ≡ (not e && (c && p))
not_and true c p = refl
not_and false c p = refl

not_none : (e c p : Bool) → (e ≡ true → p ≡ false) → ((not e && c) && p) ≡ (c && p)
not_none true true p h = sym (h refl)
not_none true false p h = refl
not_none false c p h = refl

and_true : (b : Bool) → (b && true) ≡ b
and_true true = refl
and_true false = refl

abbrev nothing : Keys
nothing = set.empty

module _ (passes : ℕ → Bool) where
  -- ---- one key more, and one less

  module _ (S : Keys) (k : ℕ) where
    more_passes : passes k ≡ true → set.retain (set.insert S k) passes ≡ set.insert (set.retain S passes) k
    more_passes let_in = same _ _ (λ q.
        holds passes (set.insert S k) q ∙ ap (λ b. b && passes q) (put S k q)
        ∙ or_and (k == q) (contains S q) (passes q) (λ is. ap passes (sym (eqb-true k q is)) ∙ let_in)
        ∙ sym (put (set.retain S passes) k q ∙ ap (λ b. k == q || b) (holds passes S q)))

    more_stopped : passes k ≡ false → set.retain (set.insert S k) passes ≡ set.retain S passes
    more_stopped left_out = same _ _ (λ q.
        holds passes (set.insert S k) q ∙ ap (λ b. b && passes q) (put S k q)
        ∙ or_none (k == q) (contains S q) (passes q) (λ is. ap passes (sym (eqb-true k q is)) ∙ left_out)
        ∙ sym (holds passes S q))

    less_passes : set.retain (set.remove S k) passes ≡ set.remove (set.retain S passes) k
    less_passes = same _ _ (λ q.
        holds passes (set.remove S k) q ∙ ap (λ b. b && passes q) (out S k q)
        ∙ not_and (k == q) (contains S q) (passes q)
        ∙ sym (out (set.retain S passes) k q ∙ ap (λ b. not (k == q) && b) (holds passes S q)))

    less_stopped : passes k ≡ false → set.retain (set.remove S k) passes ≡ set.retain S passes
    less_stopped left_out = same _ _ (λ q.
        holds passes (set.remove S k) q ∙ ap (λ b. b && passes q) (out S k q)
        ∙ not_none (k == q) (contains S q) (passes q) (λ is. ap passes (sym (eqb-true k q is)) ∙ left_out)
        ∙ sym (holds passes S q))

  -- ---- all keys of a list

  pub inserted : (S : Keys) (keys : List ℕ) → set.retain (set_after Insert S keys) passes ≡ set_after Insert (set.retain S passes) (filter passes keys)
  inserted S [] = refl
  inserted S (k ∷ keys) =
      elim (cases_Bool (passes k)) [
        | inl let_in ↦ rw let_in (inserted (set.insert S k) keys ∙ ap (λ (T : Keys). set_after Insert T (filter passes keys)) (more_passes S k let_in))
        | inr left_out ↦ rw left_out (inserted (set.insert S k) keys ∙ ap (λ (T : Keys). set_after Insert T (filter passes keys)) (more_stopped S k left_out))
      ]

  pub removed : (S : Keys) (keys : List ℕ) → set.retain (set_after Remove S keys) passes ≡ set_after Remove (set.retain S passes) (filter passes keys)
  removed S [] = refl
  removed S (k ∷ keys) =
      elim (cases_Bool (passes k)) [
        | inl let_in ↦ rw let_in (removed (set.remove S k) keys ∙ ap (λ (T : Keys). set_after Remove T (filter passes keys)) (less_passes S k))
        | inr left_out ↦ rw left_out (removed (set.remove S k) keys ∙ ap (λ (T : Keys). set_after Remove T (filter passes keys)) (less_stopped S k left_out))
      ]

  -- the keys of a list that a set holds, or does not hold
  still_chosen : (which : Chosen) (S : Keys) (keys : List ℕ) → filter passes (chosen which S keys) ≡ chosen which (set.retain S passes) (filter passes keys)
  still_chosen which S [] = refl
  still_chosen which S (k ∷ keys) =
      let others = still_chosen which S keys in
      elim (cases_Bool (passes k)) [
        | inl let_in ↦
            let there : contains (set.retain S passes) k ≡ contains S k = holds passes S k ∙ ap (λ b. contains S k && b) let_in ∙ and_true (contains S k) in
            elim (cases_Bool (is_chosen which (contains S k))) [
              | inl chosen_too ↦ rw (let_in, there, chosen_too, let_in) (ap (λ l. k ∷ l) others)
              | inr passed_over ↦ rw (let_in, there, passed_over) others
            ]
        | inr left_out ↦
            elim (cases_Bool (is_chosen which (contains S k))) [
              | inl chosen_too ↦ rw (left_out, chosen_too, left_out) others
              | inr passed_over ↦ rw (left_out, passed_over) others
            ]
      ]

  pub none_held : set.retain nothing passes ≡ nothing
  none_held = same _ _ (λ q. holds passes nothing q ∙ ap (λ b. b && passes q) (contains-empty nat_cmp q) ∙ sym (contains-empty nat_cmp q))

  pub kept_only : (S : Keys) (keys : List ℕ) → set.retain (kept S keys) passes ≡ kept (set.retain S passes) (filter passes keys)
  kept_only S keys =
      inserted nothing (chosen Present S keys)
      ∙ ap (λ (T : Keys). set_after Insert T (filter passes (chosen Present S keys))) none_held
      ∙ ap (λ ks. set_after Insert nothing ks) (still_chosen Present S keys)

  pub flipped_only : (S : Keys) (keys : List ℕ) → set.retain (flipped S keys) passes ≡ flipped (set.retain S passes) (filter passes keys)
  flipped_only S keys =
      inserted (set_after Remove S keys) (chosen Absent S keys)
      ∙ ap (λ (T : Keys). set_after Insert T (filter passes (chosen Absent S keys))) (removed S keys)
      ∙ ap (λ ks. set_after Insert (set_after Remove (set.retain S passes) (filter passes keys)) ks) (still_chosen Absent S keys)
