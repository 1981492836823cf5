-- A scan goes on where the cells that it saw decide nothing.
use Rattle.std.proofs.Common.{◌≡◌, ◌≢◌, ℕ, ◌+◌, ◌^◌, ◌<◌, ◌≤◌, inl, inr, ⊎_elim, Bool, true, false, sym, ◌∙◌, subst, arith, List, [], length, length-set, length-take-le, get_or-take, set, take}
use Rattle.std.specs.Prelude.{slice_index}
use Rattle.std.proofs.lemmas.List.{get_or-set_other, get_or-set_same}
use Rattle.rh_layout.specs.Round.{cell_ahead}
use Rattle.rh_layout.specs.Key.{cell_of}
use Rattle.rh_layout.specs.Order.{Beats, home_of}
use Rattle.rh_layout.specs.declared.entry.Entry.{Entry}
use Rattle.rh_ledger.specs.declared.tally.Kind.{Kind}
use Rattle.rh_ledger.specs.declared.tally.Kind.TheVariants.{Insert, Remove, Ask}
use Rattle.rh_world.proofs.Updated.{same_nat}
use Rattle.rh_probe.specs.Look.{AllPassed, IsPassedAt}
use Rattle.rh_probe.specs.Segment.{IsAway}
use Rattle.rh_worker.specs.Deciding.{Decides, IsLeftOpenBy}
use Rattle.rh_worker.specs.declared.deciding.Decision.TheVariants.{More}
use Rattle.rh_threads.specs.Scanning.{AllArePassed, IsPassed}

-- those that show the key's place or do not, and decide nothing, leave it open what is to be done
pub is_open : (is_placed : Bool) (kind : Kind) (b k : ℕ) (seen : List ℕ) → AllArePassed is_placed kind b k seen → IsLeftOpenBy kind b k seen []
is_open false Insert b k seen all = inl all
is_open false Remove b k seen all = inl all
is_open false Ask b k seen all = all
is_open true Insert b k seen all = inr all
is_open true Remove b k seen all = inr all
is_open true Ask b k seen all = absurd all

never_itself : (b c k : ℕ) → Beats b c k k → ⊥
never_itself b c k beats = ⊎_elim (λ less. omega (arith, less)) (λ both. let less = both.1 in omega (arith, less)) beats

-- ---- one cell more was seen

module _ (b k : ℕ) (seen : List ℕ) (n value : ℕ) (within : n < length seen) where
  abbrev front : List ℕ
  front = take n seen

  abbrev more : List ℕ
  more = take (n + 1) (set seen n value)

  abbrev cell : ℕ → ℕ
  cell p = cell_ahead (2 ^ b) (home_of b k) p

  long : length front ≡ n
  long = length-take-le n seen (omega (arith, within))

  more_long : length more ≡ n + 1
  more_long = length-take-le (n + 1) (set seen n value) (let l = length-set seen n value in omega (arith, l, within))

  old_at : (p : ℕ) → p < n → slice_index more p ≡ slice_index front p
  old_at p less =
      get_or-take (n + 1) (set seen n value) p 0 (omega (arith, less))
      ∙ get_or-set_other seen n p value 0 (let e : p ≡ n → ⊥ = λ q. omega (arith, q, less) in e)
      ∙ sym (get_or-take n seen p 0 less)

  new_at : slice_index more n ≡ value
  new_at = get_or-take (n + 1) (set seen n value) n 0 (omega arith) ∙ get_or-set_same seen n value 0 within

  each : (P : (p x : ℕ) → Type 0) → ((p : ℕ) → p < length front → P p (slice_index front p)) → P n value → (p : ℕ) → p < length more → P p (slice_index more p)
  each P old new p less = ⊎_elim
      (λ (e : p ≡ n). subst (λ (q : ℕ). P q (slice_index more q)) (sym e) (subst (P n) (sym new_at) new))
      (λ (ne : p ≢ n).
      let before : p < n = omega (arith, ne, less, more_long) in
      subst (P p) (sym (old_at p before)) (old p (omega (arith, before, long)))) (same_nat p n)

  passed_still : (p : ℕ) → p < n → IsPassedAt b k front p → IsPassedAt b k more p
  passed_still p less it = (it.0, old_at p less ∙ it.1, it.2)

  passed_before : (p : ℕ) → p < n → IsPassedAt b k more p → IsPassedAt b k front p
  passed_before p less it = (it.0, sym (old_at p less) ∙ it.1, it.2)

  all_before : (i : ℕ) → i < n → AllPassed b k front i → AllPassed b k more i
  all_before i less all p before = passed_still p (omega (arith, less, before)) (all p before)

  pub goes_on : (is_placed : Bool) (kind : Kind) → AllArePassed is_placed kind b k front → IsPassed is_placed kind b k (cell n) value → AllArePassed is_placed kind b k more
  goes_on false kind all new = each (λ p x. (j : ℕ) × (x ≡ cell_of j) × Beats b (cell p) j k) all new
  goes_on true Insert all new =
      let i = all.0 in
      let goes = all.1 in
      let less : i < n = let g = goes.0 in omega (arith, g, long) in (
        i,
        ((let l = more_long in omega (arith, less, l)), all_before i less goes.1, (λ is. goes.2 (sym (old_at i less) ∙ is)), (λ it. goes.3 (passed_before i less it))),
        (λ p from inside. each (λ p x. i ≤ p → 0 < x) (λ q before after. all.2 q after before) (λ after. new) p inside from),
      )
  goes_on true Remove all new =
      let i = all.0 in
      let here = all.1 in
      let less : i < n = let h = here.0 in omega (arith, h, long) in (
        i,
        ((let l = more_long in omega (arith, less, l)), all_before i less here.1, old_at i less ∙ here.2),
        (λ p from inside. each (λ p x. i < p → IsAway b (cell p) x) (λ q before after. all.2 q after before) (λ after. new) p inside from),
      )
  goes_on true Ask all new = absurd all

  -- where it does not pass, and all of them leave it open, they show the key's place
  pub is_placed_then : (is_placed : Bool) (kind : Kind) (entries : List Entry) → AllArePassed is_placed kind b k front → (IsPassed is_placed kind b k (cell n) value → ⊥)
      → Decides kind b k more entries More → AllArePassed true kind b k more
  is_placed_then is_placed kind entries all not says = of is_placed kind all not says
    where
      last : AllPassed b k more (length more) → IsPassed false kind b k (cell n) value
      last passed = let it = passed n (let l = more_long in omega (arith, l)) in (it.0, sym new_at ∙ it.1, it.2)

      of : (is_placed : Bool) (kind : Kind) → AllArePassed is_placed kind b k front → (IsPassed is_placed kind b k (cell n) value → ⊥) → Decides kind b k more entries More → AllArePassed true kind b k more
      of false Insert all not (inl passed) = absurd (not (last passed))
      of false Insert all not (inr shown) = shown
      of false Remove all not (inl passed) = absurd (not (last passed))
      of false Remove all not (inr shown) = shown
      of false Ask all not passed = absurd (not (last passed))
      of true Insert all not (inl passed) =
          let less : all.0 < n = let g = all.1.0 in omega (arith, g, long) in
          absurd (all.1.3 (passed_before all.0 less (passed all.0 (let l = more_long in omega (arith, less, l)))))
      of true Insert all not (inr shown) = shown
      of true Remove all not (inl passed) =
          let less : all.0 < n = let g = all.1.0 in omega (arith, g, long) in
          let it = passed all.0 (let l = more_long in omega (arith, less, l)) in
          let same : it.0 ≡ k = (let a = old_at all.0 less in let h = all.1.2 in let q = it.1 in omega (arith, a, h, q)) in
          absurd (never_itself b (cell all.0) k (subst (λ (j : ℕ). Beats b (cell all.0) j k) same it.2))
      of true Remove all not (inr shown) = shown
      of true Ask all not passed = absurd all
