-- A finished phase of several workers is the phase over their joined lists.
use Rattle.std.proofs.Common.{◌≡◌, ℕ, ◌+◌, ◌^◌, ◌<◌, inl, inr, refl, sym, ap, ◌∙◌, subst, List, [], ◌∷◌, ◌++◌, length, get_or, take, zero, suc, arith, Bool}
use Rattle.std.specs.List.{Contains, count_by}
use Rattle.std.specs.FinSet as set
use Rattle.std.specs.FinSet.{contains}
use Rattle.std.proofs.lemmas.List.{map-append}
use Rattle.rh_layout.specs.Round.{cell_ahead}
use Rattle.rh_layout.specs.Key.{cell_of}
use Rattle.rh_layout.specs.Order.{home_of}
use Rattle.rh_layout.specs.Layout.{Keys, Layout}
use Rattle.rh_probe.specs.Segment.{IsFront}
use Rattle.rh_probe.proofs.LookLemmas.{here_held, goes_fresh}
use Rattle.rh_ledger.specs.declared.tally.Kind.{Kind}
use Rattle.rh_ledger.specs.declared.tally.Kind.TheVariants.{Insert, Remove, Ask}
use Rattle.rh_ledger.specs.Phase.{set_after, looked_up}
use Rattle.rh_acts.specs.Act.{Act, apply_acts, AllMeet, WasWord, changes}
use Rattle.rh_acts.specs.Done.{Kept, kept, WereTrue, IsAsked, Does, KeyDone, IsDone}
use Rattle.rh_acts.specs.Workers.{Made, acts_of, own, AreOf, joined, piece}
use Rattle.rh_acts.proofs.ActLemmas.{contains_head, contains_cases, contains_none}
use Rattle.rh_acts.proofs.DoneLemmas.{done_key, done_act, does_insert, does_removal}
use Rattle.rh_acts.proofs.JoinedLemmas.{all_inserted, all_removed}
use Rattle.rh_acts.proofs.OwnLemmas.{from_joined, in_joined, own_among, of_its_own}

-- ---- the acts by which one key is done

only_act : (first : List Act) (a a' : Act) → first ≡ a ∷ [] → Contains first a' → a ≡ a'
only_act first a a' is h = elim (contains_cases a a' [] (subst (λ (ys : List Act). Contains ys a') is h)) [ inl e ↦ e | inr none ↦ absurd (contains_none a' none) ]

act_of_key : (kind : Kind) (b : ℕ) (reads : List Kept) (k : ℕ) (first : List Act) (so : Bool) (a : Act) → KeyDone kind b reads k first so → Contains first a → Does kind b k so a
act_of_key kind b reads k first so a one h =
    elim one [
      | inl by ↦ subst (λ (z : Act). Does kind b k so z) (only_act first by.act a by.only h) by.does
      | inr by ↦ absurd (contains_none a (subst (λ (ys : List Act). Contains ys a) by.none h))
    ]

first_act : (first : List Act) (a : Act) → first ≡ a ∷ [] → Contains first a
first_act first a is = subst (λ (ys : List Act). Contains ys a) (sym is) (contains_head a [])

-- ---- phases that change the set

module _ (b : ℕ) (opening : List ℕ) (S : Keys) (pieces : List (List ℕ)) (made : List Made) (reads : List (List Kept)) (answers : List (List Bool)) (layout : Layout opening b S) (meet : AllMeet (acts_of made) opening) (owned : AreOf (length pieces) made) where
  -- each act does a key of its worker
  does_a_key : (kind : Kind) → ((w : ℕ) → w < length pieces → IsDone kind b (piece reads w) (piece pieces w) (own w made) (piece answers w)) → (a : Act) → Contains (acts_of made) a → (k : ℕ) × Contains (joined pieces) k × (so : Bool) × Does kind b k so a
  does_a_key kind done a h =
      let m = of_its_own made a h in
      let w = (m.0).worker in
      let l = owned m.0 m.1 in
      let got = done_act kind b (piece reads w) (piece pieces w) (own w made) (piece answers w) (done w l) a m.2 in
      (got.0, in_joined pieces w got.0 l got.1, got.3, act_of_key kind b (piece reads w) got.0 got.2 got.3 a got.4 got.5)

  pub phase_inserted : set.len (set_after Insert S (joined pieces)) < 2 ^ b → ((w : ℕ) → w < length pieces → WereTrue opening (acts_of made) (piece reads w)) → ((w : ℕ) → w < length pieces → IsDone Insert b (piece reads w) (piece pieces w) (own w made) (piece answers w)) → Layout (apply_acts (acts_of made) opening) b (set_after Insert S (joined pieces)) × (set.len (set_after Insert S (joined pieces)) ≡ set.len S + length (acts_of made))
  phase_inserted room were done =
      all_inserted b opening S (joined pieces) (acts_of made) layout meet room
      (λ k h.
      let at_w = from_joined pieces k h in
      let w = at_w.0 in
      let one = done_key Insert b (piece reads w) (piece pieces w) (own w made) (piece answers w) (done w at_w.1) k at_w.2 in
      elim one.2 [
        | inl by ↦ inl (by.act, own_among w made by.act (one.3 by.act (first_act one.0 by.act by.only)), does_insert b k one.1 by.act by.does)
        | inr by ↦ let at = by.tells.1 in inr (at.0, were w at_w.1 (kept at.0 (cell_of k)) at.1)
      ])
      (λ a h. let got = does_a_key Insert done a h in (got.0, got.1, does_insert b got.0 got.2 a got.3))

  pub phase_removed : ((w : ℕ) → w < length pieces → IsDone Remove b (piece reads w) (piece pieces w) (own w made) (piece answers w)) → Layout (apply_acts (acts_of made) opening) b (set_after Remove S (joined pieces)) × (set.len (set_after Remove S (joined pieces)) + count_by changes (acts_of made) ≡ set.len S)
  phase_removed done =
      all_removed b opening S (joined pieces) (acts_of made) layout meet
      (λ k h.
      let at_w = from_joined pieces k h in
      let w = at_w.0 in
      let one = done_key Remove b (piece reads w) (piece pieces w) (own w made) (piece answers w) (done w at_w.1) k at_w.2 in
      elim one.2 [
        | inl by ↦ (by.act, own_among w made by.act (one.3 by.act (first_act one.0 by.act by.only)), does_removal b k one.1 by.act by.does)
        | inr by ↦ absurd by.tells
      ])
      (λ a h. let got = does_a_key Remove done a h in (got.0, got.1, does_removal b got.0 got.2 a got.3))

-- ---- phases that ask

no_act : (b : ℕ) (reads : List Kept) (k : ℕ) (first : List Act) (so : Bool) → KeyDone Ask b reads k first so → first ≡ []
no_act b reads k first so (inl by) = absurd by.does
no_act b reads k first so (inr by) = by.none

pub ask_has_no_act : (b : ℕ) (reads : List Kept) (keys : List ℕ) (acts : List Act) (answers : List Bool) → IsDone Ask b reads keys acts answers → acts ≡ []
ask_has_no_act b reads [] acts answers done = done.0
ask_has_no_act b reads (k ∷ keys) acts answers done =
    done.4 ∙ ap (λ (ys : List Act). ys ++ done.1) (no_act b reads k done.0 done.2 done.6) ∙ ask_has_no_act b reads keys done.1 done.3 done.7

-- with no act, what was read is what the opening cells held
abbrev pub AreHeld : (opening : List ℕ) (reads : List Kept) → Type 0
AreHeld opening reads = (r : Kept) → Contains reads r → get_or opening r.cell 0 ≡ r.value

first_none : (n : ℕ) (opening : List ℕ) (c : ℕ) → get_or (apply_acts (take n []) opening) c 0 ≡ get_or opening c 0
first_none zero opening c = refl
first_none (suc n) opening c = refl

pub held_without_acts : (opening : List ℕ) (acts : List Act) (reads : List Kept) → acts ≡ [] → WereTrue opening acts reads → AreHeld opening reads
held_without_acts opening acts reads none were r h =
    let was = subst (λ (xs : List Act). WasWord opening xs r.cell r.value) none (were r h) in
    sym (first_none was.0 opening r.cell) ∙ was.2

asked_right : (b : ℕ) (opening : List ℕ) (S : Keys) (reads : List Kept) (k : ℕ) (answer : Bool) → Layout opening b S → AreHeld opening reads → IsAsked b reads k answer → answer ≡ contains S k
asked_right b opening S reads k answer layout held ask =
    let front : IsFront (2 ^ b) (home_of b k) opening ask.seen = record { room = ask.room; shows = λ p p_in. sym (held (kept (cell_ahead (2 ^ b) (home_of b k) p) (get_or ask.seen p 0)) (ask.read p p_in)) } in
    elim ask.tells [
      | inl yes' ↦ yes'.0 ∙ sym (here_held b opening ask.seen k yes'.1.0 S layout front yes'.1.1)
      | inr no' ↦ no'.0 ∙ sym (goes_fresh b opening ask.seen k no'.1.0 S layout front no'.1.1)
    ]

key_asked : (b : ℕ) (opening : List ℕ) (S : Keys) (reads : List Kept) (k : ℕ) (first : List Act) (so : Bool) → Layout opening b S → AreHeld opening reads → KeyDone Ask b reads k first so → so ≡ contains S k
key_asked b opening S reads k first so layout held (inl by) = absurd by.does
key_asked b opening S reads k first so layout held (inr by) = asked_right b opening S reads k so layout held by.tells

pub piece_asked : (b : ℕ) (opening : List ℕ) (S : Keys) (reads : List Kept) (keys : List ℕ) (acts : List Act) (answers : List Bool) → Layout opening b S → AreHeld opening reads → IsDone Ask b reads keys acts answers → answers ≡ looked_up S keys
piece_asked b opening S reads [] acts answers layout held done = done.1
piece_asked b opening S reads (k ∷ keys) acts answers layout held done =
    let head : done.2 ≡ contains S k = key_asked b opening S reads k done.0 done.2 layout held done.6 in
    let tail : done.3 ≡ looked_up S keys = piece_asked b opening S reads keys done.1 done.3 layout held done.7 in
    done.5 ∙ ap (λ (x : Bool). x ∷ done.3) head ∙ ap (λ (ys : List Bool). contains S k ∷ ys) tail

pub joined_look_ups : (S : Keys) (pieces : List (List ℕ)) (answers : List (List Bool)) → length answers ≡ length pieces → ((w : ℕ) → w < length pieces → piece answers w ≡ looked_up S (piece pieces w)) → joined answers ≡ looked_up S (joined pieces)
joined_look_ups S [] [] size are = refl
joined_look_ups S [] (x ∷ xs) size are = absurd (omega (arith, size))
joined_look_ups S (p ∷ ps) [] size are = absurd (omega (arith, size))
joined_look_ups S (p ∷ ps) (x ∷ xs) size are =
    ap (λ (ys : List Bool). ys ++ joined xs) (are 0 (omega arith))
    ∙ ap (λ (ys : List Bool). looked_up S p ++ ys) (joined_look_ups S ps xs (omega arith) (λ w l. are (suc w) (omega arith)))
    ∙ sym (map-append (contains S) p (joined ps))
