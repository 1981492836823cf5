-- What a list of acts makes of a layout.
use Rattle.std.proofs.Common.{◌≡◌, ℕ, ◌+◌, ◌^◌, ◌<◌, ◌⊎◌, inl, inr, refl, sym, ◌∙◌, subst, arith, List, [], ◌∷◌, take, false, cond}
use Rattle.std.specs.Prelude.{IsTrue}
use Rattle.std.specs.List.{Contains, count_by}
use Rattle.std.specs.FinSet as set
use Rattle.std.specs.FinSet.{contains}
use Rattle.std.proofs.lemmas.Bool.{cases_eq}
use Rattle.std.proofs.lemmas.List.Sums.{sum_by-cons}
use Rattle.rh_layout.specs.Layout.{Keys, Layout}
use Rattle.rh_layout.proofs.SetLemmas.{not_true, put_cases, put_it, put_kept, out_cases, out_kept}
use Rattle.rh_layout.proofs.LayoutLemmas.{layout_keys}
use Rattle.rh_ledger.specs.declared.tally.Kind.TheVariants.{Insert}
use Rattle.rh_ledger.specs.Phase.{set_after}
use Rattle.rh_acts.specs.Act.{Act, apply_act, AllMeet, changes}
use Rattle.rh_acts.specs.KeyActs.{IsInsertAct, IsRemoveAct, IsRemovalAct}
use Rattle.rh_acts.specs.Moments.{Grown, Shrunk}
use Rattle.rh_acts.proofs.ActLemmas.{contains_head, contains_tail, contains_cases, contains_none, all_meet_take, contains_take}
use Rattle.rh_acts.proofs.OneAct.{fresh_by_insert, insert_act, remove_act, absence_act}
use Rattle.rh_acts.proofs.Changing.{remove_changes, absence_changes}
use Rattle.rh_acts.proofs.FoldLemmas.{len_new, len_part, len_out, then_is, else_is, all_kept, all_there}

-- Two layouts of the same cells have the same set.
same_layout : (b : ℕ) (cells : List ℕ) (S T : Keys) → Layout cells b S → Layout cells b T → S ≡ T
same_layout b cells S T p q = layout_keys cells b S p ∙ sym (layout_keys cells b T q)

-- ---- insertions
module _ (b : ℕ) (U : Keys) (room : set.len U < 2 ^ b) where
  pub grow : (acts : List Act) (cells : List ℕ) (S : Keys) → Layout cells b S → AllMeet acts cells → ((q : ℕ) → IsTrue (contains S q) → IsTrue (contains U q)) → ((a : Act) → Contains acts a → (k : ℕ) × IsInsertAct b k a × IsTrue (contains U k)) → (T : Keys) × Grown b acts cells S T × ((q : ℕ) → IsTrue (contains T q) → IsTrue (contains U q))
  grow [] cells S layout meet part by = (
    S,
    record {
      layout = layout;
      grew = omega arith;
      keeps = λ q h. h;
      fresh = λ a k h ins. absurd (contains_none a h);
      adds = λ a k h ins. absurd (contains_none a h);
      only = λ q h. inl h;
    },
    part,
  )
  grow (a ∷ rest) cells S layout meet part by =
      let it = by a (contains_head a rest) in
      let k = it.0 in
      let new : contains S k ≡ false = fresh_by_insert b k a cells S it.1 layout meet.0 in
      let part' : (q : ℕ) → IsTrue (contains (set.insert S k) q) → IsTrue (contains U q) = λ q h. elim (put_cases S k q h) [ inl is ↦ rw is it.2 | inr old ↦ part q old ] in
      let size : set.len (set.insert S k) ≡ set.len S + 1 = len_new S k new in
      let step = insert_act b k a cells S it.1 layout meet.0 (omega (arith, len_part (set.insert S k) U part')) in
      let next = grow rest (apply_act a cells) (set.insert S k) step.1 meet.1 part' (λ x h. by x (contains_tail a x rest h)) in
      let g = next.1 in
      -- another key that this act puts in is the same key
      let again : (q : ℕ) → IsInsertAct b q a → (contains S q ≡ false) × IsTrue (contains (set.insert S k) q) = λ q ins.
      let other = insert_act b q a cells S ins layout meet.0 (omega (arith, len_part (set.insert S k) U part')) in
      (other.0, subst (λ (Z : Keys). IsTrue (contains Z q)) (same_layout b (apply_act a cells) (set.insert S q) (set.insert S k) other.1 step.1) (put_it S q)) in (
        next.0,
        record {
          layout = g.layout;
          grew = omega (arith, g.grew);
          keeps = λ q h. g.keeps q (put_kept S k q h);
          fresh = λ x q h ins. elim (contains_cases a x rest h) [
            | inl is ↦ (again q (subst (λ (z : Act). IsInsertAct b q z) (sym is) ins)).0
            | inr later ↦ not_true (contains S q) (λ has. let no = g.fresh x q later ins in let yes = put_kept S k q has in (cc))
          ];
          adds = λ x q h ins. elim (contains_cases a x rest h) [
            | inl is ↦ g.keeps q (again q (subst (λ (z : Act). IsInsertAct b q z) (sym is) ins)).1
            | inr later ↦ g.adds x q later ins
          ];
          only = λ q h. elim (g.only q h) [
            | inl old ↦ elim (put_cases S k q old) [ inl is ↦ inr (a, contains_head a rest, subst (λ (z : ℕ). IsInsertAct b z a) (sym is) it.1) | inr older ↦ inl older ]
            | inr made ↦ inr (made.0, contains_tail a made.0 rest made.1, made.2)
          ];
        },
        next.2,
      )

-- ---- removals

count_more : (a : Act) (rest : List Act) → count_by changes (a ∷ rest) ≡ cond (changes a) 1 0 + count_by changes rest
count_more a rest = sum_by-cons (λ x. cond (changes x) 1 0) a rest

module _ (b : ℕ) (Asked : ℕ → Type 0) where
  pub shrink : (acts : List Act) (cells : List ℕ) (S : Keys) → Layout cells b S → AllMeet acts cells → ((a : Act) → Contains acts a → (k : ℕ) × IsRemovalAct b k a × Asked k) → (T : Keys) × Shrunk b acts cells S T × ((q : ℕ) → IsTrue (contains S q) → IsTrue (contains T q) ⊎ Asked q)
  shrink [] cells S layout meet by = (
    S,
    record {
      layout = layout;
      shrank = omega arith;
      part = λ q h. h;
      drops = λ a k h rem. absurd (contains_none a h);
      only = λ q h. inl h;
    },
    λ q h. inl h,
  )
  shrink (a ∷ rest) cells S layout meet by =
      let it = by a (contains_head a rest) in
      let k = it.0 in
      elim it.1 [
        | inl rem ↦
            let step = remove_act b k a cells S rem layout meet.0 in
            let next = shrink rest (apply_act a cells) (set.remove S k) step.1 meet.1 (λ x h. by x (contains_tail a x rest h)) in
            let g = next.1 in (
              next.0,
              record {
                layout = g.layout;
                shrank = omega (arith, g.shrank, len_out S k step.0, count_more a rest, then_is (changes a) 1 0 (remove_changes b k a rem));
                part = λ q h. (out_cases S k q (g.part q h)).1;
                drops = λ x q h made. elim (contains_cases a x rest h) [
                  | inl is ↦ not_true (contains next.0 q) (λ has. gone (set.remove S k) q step.1 (subst (λ (z : Act). IsRemovalAct b q z) (sym is) made) (λ r h. (out_cases S k r h).1) (g.part q has))
                  | inr later ↦ g.drops x q later made
                ];
                only = λ q h. elim (cases_eq q k) [
                  | inl is ↦ inr (a, contains_head a rest, subst (λ (z : ℕ). IsRemoveAct b z a) (sym is) rem)
                  | inr ne ↦ elim (g.only q (out_kept S k q (λ e. omega arith) h)) [ inl kept ↦ inl kept | inr made ↦ inr (made.0, contains_tail a made.0 rest made.1, made.2) ]
                ];
              },
              λ q h. elim (cases_eq q k) [
                | inl is ↦ inr (subst Asked (sym is) it.2)
                | inr ne ↦ next.2 q (out_kept S k q (λ e. omega arith) h)
              ],
            )
        | inr none ↦
            let step = absence_act b k a cells S none layout meet.0 in
            let layout' : Layout (apply_act a cells) b S = subst (λ (zs : List ℕ). Layout zs b S) (sym step.1) layout in
            let next = shrink rest (apply_act a cells) S layout' meet.1 (λ x h. by x (contains_tail a x rest h)) in
            let g = next.1 in (
              next.0,
              record {
                layout = g.layout;
                shrank = omega (arith, g.shrank, count_more a rest, else_is (changes a) 1 0 (absence_changes b k a none));
                part = g.part;
                drops = λ x q h made. elim (contains_cases a x rest h) [
                  | inl is ↦ not_true (contains next.0 q) (λ has. gone S q layout' (subst (λ (z : Act). IsRemovalAct b q z) (sym is) made) (λ r h. h) (g.part q has))
                  | inr later ↦ g.drops x q later made
                ];
                only = λ q h. elim (g.only q h) [ inl kept ↦ inl kept | inr made ↦ inr (made.0, contains_tail a made.0 rest made.1, made.2) ];
              },
              next.2,
            )
      ]
    where
      -- a key for which this act is the act of a removal is not there after it
      gone : (T : Keys) (q : ℕ) → Layout (apply_act a cells) b T → IsRemovalAct b q a → ((r : ℕ) → IsTrue (contains T r) → IsTrue (contains S r)) → IsTrue (contains T q) → ⊥
      gone T q after made part has =
          elim made [
            | inl rem ↦
                let other = remove_act b q a cells S rem layout meet.0 in
                let out : IsTrue (contains (set.remove S q) q) = subst (λ (Z : Keys). IsTrue (contains Z q)) (same_layout b (apply_act a cells) T (set.remove S q) after other.1) has in
                (out_cases S q q out).0 refl
            | inr none ↦
                let no = (absence_act b q a cells S none layout meet.0).0 in
                let yes = part q has in
                (cc)
          ]

-- ---- a phase after its first n acts

pub insertions_grow : (b : ℕ) (opening : List ℕ) (S : Keys) (keys : List ℕ) (acts : List Act) → Layout opening b S → AllMeet acts opening → set.len (set_after Insert S keys) < 2 ^ b → ((a : Act) → Contains acts a → (k : ℕ) × Contains keys k × IsInsertAct b k a) → (n : ℕ) → (T : Keys) × Grown b (take n acts) opening S T
insertions_grow b opening S keys acts layout meet room by n =
    let got = grow b (set_after Insert S keys) room (take n acts) opening S layout (all_meet_take n acts opening meet) (λ q h. all_kept S keys q h) (λ a h. let it = by a (contains_take n acts a h) in (it.0, it.2, all_there S keys it.0 it.1)) in
    (got.0, got.1)

pub removals_shrink : (b : ℕ) (opening : List ℕ) (S : Keys) (acts : List Act) → Layout opening b S → AllMeet acts opening → ((a : Act) → Contains acts a → (k : ℕ) × IsRemovalAct b k a) → (n : ℕ) → (T : Keys) × Shrunk b (take n acts) opening S T
removals_shrink b opening S acts layout meet by n =
    let got = shrink b (λ k. Unit {0}) (take n acts) opening S layout (all_meet_take n acts opening meet) (λ a h. let it = by a (contains_take n acts a h) in (it.0, it.1, tt)) in
    (got.0, got.1)
