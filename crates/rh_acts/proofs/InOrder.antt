-- The acts of a phase so far, as a phase over their keys.
use Rattle.std.proofs.Common.{◌≡◌, ℕ, zero, suc, ◌<◌, inl, inr, refl, sym, ap, ◌∙◌, subst, arith, List, [], ◌∷◌, ◌++◌, map}
use Rattle.std.specs.List.{Contains}
use Rattle.std.proofs.lemmas.List.{append-nil}
use Rattle.rh_layout.specs.Layout.{Layout}
use Rattle.rh_ledger.specs.Phase.{set_after, tally_of}
use Rattle.rh_ledger.proofs.PhaseLemmas.{sum-none}
use Rattle.rh_acts.specs.Act.{Act, apply_acts, AllMeet}
use Rattle.rh_acts.specs.Done.{Kept, IsDone}
use Rattle.rh_acts.specs.Workers.{Made, acts_of, own, AreOf, piece, counted, LeavesRoom}
use Rattle.rh_acts.specs.Laws.{ActsAreAPhase}
use Rattle.rh_acts.proofs.ActLemmas.{contains_cases, contains_none}
use Rattle.rh_acts.proofs.PhaseLaws.{phase_is_of_joined_lists}

-- all acts as those of worker 0
abbrev by_first : Act → Made
by_first act = record { worker = 0; act = act }

acts_by_first : (acts : List Act) → acts_of (map by_first acts) ≡ acts
acts_by_first [] = refl
acts_by_first (a ∷ rest) = ap (λ (xs : List Act). a ∷ xs) (acts_by_first rest)

own_by_first : (acts : List Act) → own 0 (map by_first acts) ≡ acts
own_by_first [] = refl
own_by_first (a ∷ rest) = ap (λ (xs : List Act). a ∷ xs) (own_by_first rest)

all_by_first : (acts : List Act) → AreOf 1 (map by_first acts)
all_by_first [] m h = absurd (contains_none m h)
all_by_first (a ∷ rest) m h = elim (contains_cases (by_first a) m (map by_first rest) h) [ inl is ↦ subst (λ (x : Made). x.worker < 1) is (omega arith) | inr later ↦ all_by_first rest m later ]

pub acts_are_a_phase : ActsAreAPhase
acts_are_a_phase kind b opening S keys acts layout meet room answers done =
    let made = map by_first acts in
    let whole : keys ++ [] ≡ keys = append-nil keys in
    let all = acts_by_first acts in
    let got = phase_is_of_joined_lists kind b opening S (keys ∷ []) made ([] ∷ []) (answers ∷ []) layout
    (subst (λ (xs : List Act). AllMeet xs opening) (sym all) meet)
    (all_by_first acts)
    (subst (λ (ks : List ℕ). LeavesRoom kind b S ks) (sym whole) room)
    (λ w l r h. absurd (no_reads w r h))
    (λ w l. done_at w (omega arith)) in (
      subst (λ (xs : List Act). Layout (apply_acts xs opening) b (set_after kind S keys)) all (subst (λ (ks : List ℕ). Layout (apply_acts (acts_of made) opening) b (set_after kind S ks)) whole got.0),
      sym (sum-none (counted kind answers)) ∙ got.1 ∙ ap (tally_of kind S) whole,
    )
  where
    done_at : (w : ℕ) → w ≡ 0 → IsDone kind b (piece ([] ∷ []) w) (piece (keys ∷ []) w) (own w (map by_first acts)) (piece (answers ∷ []) w)
    done_at w e = rw (e, own_by_first acts) done

    no_reads : (w : ℕ) (r : Kept) → Contains (piece ([] ∷ []) w) r → ⊥
    no_reads zero r h = contains_none r h
    no_reads (suc w) r h = contains_none r h
