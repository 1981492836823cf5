-- Which keys a circle of cells holds, and where.
use Rattle.std.proofs.Common.{◌≡◌, ℕ, ◌<◌, inl, inr, sym, ap, ◌∙◌}
use Rattle.std.proofs.lemmas.Bool.{cases_order}
use Rattle.rh_layout.specs.Round.{steps_round, cell_ahead}
use Rattle.rh_layout.proofs.RoundLemmas.{cell_ahead-steps}
use Rattle.rh_layout.proofs.OrderLemmas.{Ahead, HoldsAhead, IsOrdered, ahead_not_both}

abbrev pub IsHeld : (n : ℕ) (f : ℕ → ℕ) (x : ℕ) → Type 0
IsHeld n f x = (c : ℕ) × (c < n) × (f c ≡ x)

-- Each cell on the way from a key's home to the key holds one that is ahead of it.
pub ahead_on_way : (n : ℕ) (home f : ℕ → ℕ) (low : (k : ℕ) → home k < n) → IsOrdered n home f → (c d k : ℕ) → c < n → d < n → 0 < k → f c ≡ k → steps_round n (home k) d < steps_round n (home k) c → HoldsAhead n home f d k
ahead_on_way n home f low ordered c d k c_in d_in some is before =
    let got = ordered c c_in (rw is some) in
    rw (cell_ahead-steps n (home k) d (low k) d_in) at ((rw is at got) (steps_round n (home k) d) before)

-- Where the first cell that is free, or holds no key ahead of k, does not hold k, k is nowhere.
pub not_held : (n : ℕ) (home f : ℕ → ℕ) (low : (k : ℕ) → home k < n) → IsOrdered n home f → (k e : ℕ) → 0 < k → e < n → ((c : ℕ) → c < n → steps_round n (home k) c < steps_round n (home k) e → Ahead n home c (f c) k) → (f e ≡ k → ⊥) → (HoldsAhead n home f e k → ⊥) → IsHeld n f k → ⊥
not_held n home f low ordered k e some e_in passed other decides held =
    let c = held.0 in
    let itself : Ahead n home c k k → ⊥ = λ a. ahead_not_both n home c k k a a in
    elim (cases_order (steps_round n (home k) c) (steps_round n (home k) e)) [
      | inl same ↦
          let is : c ≡ e = sym (cell_ahead-steps n (home k) c (low k) held.1) ∙ ap (cell_ahead n (home k)) same ∙ cell_ahead-steps n (home k) e (low k) e_in in
          other (ap f (sym is) ∙ held.2)
      | inr (inl before) ↦ itself (rw held.2 at (passed c held.1 before))
      | inr (inr behind) ↦ decides (ahead_on_way n home f low ordered c e k held.1 e_in some held.2 behind)
    ]

-- No key stands in two cells of an ordered circle.
pub once_from_ordered : (n : ℕ) (home f : ℕ → ℕ) (low : (k : ℕ) → home k < n) → IsOrdered n home f → (c d k : ℕ) → c < n → d < n → 0 < k → f c ≡ k → f d ≡ k → c ≡ d
once_from_ordered n home f low ordered c d k c_in d_in some in_c in_d =
    elim (cases_order (steps_round n (home k) c) (steps_round n (home k) d)) [
      | inl same ↦ sym (cell_ahead-steps n (home k) c (low k) c_in) ∙ ap (cell_ahead n (home k)) same ∙ cell_ahead-steps n (home k) d (low k) d_in
      | inr (inl less) ↦ absurd (itself c (rw in_c at ((ahead_on_way n home f low ordered d c k d_in c_in some in_d less).1)))
      | inr (inr more) ↦ absurd (itself d (rw in_d at ((ahead_on_way n home f low ordered c d k c_in d_in some in_c more).1)))
    ]
  where
    itself : (c : ℕ) → Ahead n home c k k → ⊥
    itself c a = ahead_not_both n home c k k a a
