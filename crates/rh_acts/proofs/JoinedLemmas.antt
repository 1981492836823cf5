-- A list of acts by its keys, with no worker: what it makes is what a phase over the keys makes.
use Rattle.std.proofs.Common.{◌≡◌, ℕ, ◌+◌, ◌^◌, ◌<◌, ◌⊎◌, inl, inr, sym, ap, ◌∙◌, subst, arith, List, length, get_or, take}
use Rattle.std.specs.Prelude.{IsTrue}
use Rattle.std.specs.List.{Contains, count_by}
use Rattle.std.specs.FinSet as set
use Rattle.std.specs.FinSet.{contains}
use Rattle.std.proofs.lemmas.Bool.{cases_lt}
use Rattle.std.proofs.lemmas.List.{get_or_past}
use Rattle.rh_layout.specs.Key.{cell_of}
use Rattle.rh_layout.specs.Layout.{Keys, Holds, Layout}
use Rattle.rh_layout.proofs.SetLemmas.{same_keys}
use Rattle.rh_ledger.specs.declared.tally.Kind.TheVariants.{Insert, Remove}
use Rattle.rh_ledger.specs.Phase.{set_after}
use Rattle.rh_acts.specs.Act.{Act, apply_acts, AllMeet, WasWord, changes}
use Rattle.rh_acts.specs.KeyActs.{IsInsertAct, IsRemovalAct}
use Rattle.rh_acts.proofs.ActLemmas.{contains_take, all_meet_take}
use Rattle.rh_acts.proofs.FoldLemmas.{all_kept, all_there, there_cases, left_part, left_out, left_kept}
use Rattle.rh_acts.proofs.Chain.{grow, shrink}

-- a cell that held a key is one of the table
word_held : (cells : List ℕ) (c k : ℕ) → get_or cells c 0 ≡ cell_of k → Holds cells c k
word_held cells c k is = elim (cases_lt c (length cells)) [ inl l ↦ (l, is) | inr past ↦ absurd (omega (arith, is, get_or_past cells c 0 past)) ]

module _ (b : ℕ) (opening : List ℕ) (S : Keys) (keys : List ℕ) (acts : List Act) (layout : Layout opening b S) (meet : AllMeet acts opening) where
  pub all_inserted : set.len (set_after Insert S keys) < 2 ^ b → ((k : ℕ) → Contains keys k → ((a : Act) × Contains acts a × IsInsertAct b k a) ⊎ ((c : ℕ) × WasWord opening acts c (cell_of k))) → ((a : Act) → Contains acts a → (k : ℕ) × Contains keys k × IsInsertAct b k a) → Layout (apply_acts acts opening) b (set_after Insert S keys) × (set.len (set_after Insert S keys) ≡ set.len S + length acts)
  all_inserted room by_key by_act =
      let U = set_after Insert S keys in
      let in_U : (a : Act) → Contains acts a → (k : ℕ) × IsInsertAct b k a × IsTrue (contains U k) = λ a h. let it = by_act a h in (it.0, it.2, all_there S keys it.0 it.1) in
      let all = grow b U room acts opening S layout meet (λ q h. all_kept S keys q h) in_U in
      let g = all.1 in
      let there : (q : ℕ) → Contains keys q → IsTrue (contains all.0 q) = λ q h. elim (by_key q h) [
        | inl made ↦ g.adds made.0 q made.1 made.2
        | inr read ↦
            let c = read.0 in
            let n = read.1.0 in
            let early = grow b U room (take n acts) opening S layout (all_meet_take n acts opening meet) (λ r h'. all_kept S keys r h') (λ a h'. in_U a (contains_take n acts a h')) in
            let e = early.1 in
            elim (e.only q (e.layout.no_other c q (word_held (apply_acts (take n acts) opening) c q read.1.2))) [
              | inl old ↦ g.keeps q old
              | inr made ↦ g.adds made.0 q (contains_take n acts made.0 made.1) made.2
            ]
      ] in
      let back : (q : ℕ) → IsTrue (contains U q) → IsTrue (contains all.0 q) = λ q h. elim (there_cases S keys q h) [ inl old ↦ g.keeps q old | inr in' ↦ there q in' ] in
      let same : all.0 ≡ U = same_keys all.0 U all.2 back in
      (subst (λ (T : Keys). Layout (apply_acts acts opening) b T) same g.layout, sym (ap set.len same) ∙ g.grew)

  pub all_removed : ((k : ℕ) → Contains keys k → (a : Act) × Contains acts a × IsRemovalAct b k a) → ((a : Act) → Contains acts a → (k : ℕ) × Contains keys k × IsRemovalAct b k a) → Layout (apply_acts acts opening) b (set_after Remove S keys) × (set.len (set_after Remove S keys) + count_by changes acts ≡ set.len S)
  all_removed by_key by_act =
      let U = set_after Remove S keys in
      let all = shrink b (Contains keys) acts opening S layout meet (λ a h. let it = by_act a h in (it.0, it.2, it.1)) in
      let s = all.1 in
      let to : (q : ℕ) → IsTrue (contains all.0 q) → IsTrue (contains U q) = λ q h. left_kept S keys q (s.part q h) (λ asked. let made = by_key q asked in let out = s.drops made.0 q made.1 made.2 in (cc)) in
      let from : (q : ℕ) → IsTrue (contains U q) → IsTrue (contains all.0 q) = λ q h. elim (all.2 q (left_part S keys q h)) [ inl kept ↦ kept | inr asked ↦ absurd (left_out S keys q asked h) ] in
      let same : all.0 ≡ U = same_keys all.0 U to from in
      (subst (λ (T : Keys). Layout (apply_acts acts opening) b T) same s.layout, ap (λ (T : Keys). set.len T + count_by changes acts) (sym same) ∙ s.shrank)
