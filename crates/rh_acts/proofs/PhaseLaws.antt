-- A finished phase: its cells, its tally and its answers.
use Rattle.std.proofs.Common.{◌≡◌, ℕ, ◌+◌, ◌<◌, refl, sym, ap, ◌∙◌, subst, inl, inr, List, [], ◌∷◌, length, Bool, true, false, cond}
use Rattle.std.specs.List.{count_by, sum_by}
use Rattle.std.specs.FinSet as set
use Rattle.std.specs.FinSet.{contains}
use Rattle.std.proofs.lemmas.List.Sums.{sum_by-cons}
use Rattle.rh_layout.specs.Layout.{Keys, Layout}
use Rattle.rh_ledger.specs.declared.tally.Kind.{Kind}
use Rattle.rh_ledger.specs.declared.tally.Kind.TheVariants.{Insert, Remove, Ask}
use Rattle.rh_ledger.specs.declared.tally.Tally.{Tally}
use Rattle.rh_ledger.specs.Tally.{none_yet, added_of, removed_of}
use Rattle.rh_ledger.specs.Phase.{set_after, tally_of, looked_up}
use Rattle.rh_acts.specs.Act.{Act, apply_acts, changes}
use Rattle.rh_acts.specs.Done.{Kept, WereTrue, KeyDone, IsDone}
use Rattle.rh_acts.specs.Laws.{PhaseIsOfJoinedLists}
use Rattle.rh_acts.specs.Workers.{Made, acts_of, own, AreOf, joined, piece, how_many, counted, sum_of_all}
use Rattle.rh_acts.proofs.FoldLemmas.{same_tally, tally_of_insert, tally_of_remove, tally_of_ask, set_of_ask}
use Rattle.rh_acts.proofs.OwnLemmas.{none_of_own}
use Rattle.rh_acts.proofs.SumLemmas.{sum_upto, upto_same, upto_zero, upto_joined, upto_own, upto_lengths, ones, read_of_all, added_of_all, removed_of_all, found_of_all}
use Rattle.rh_acts.proofs.Changing.{as_many_answers, key_counts, answers_count}
use Rattle.rh_acts.proofs.PhaseLemmas.{phase_inserted, phase_removed, ask_has_no_act, held_without_acts, piece_asked, joined_look_ups}

-- ---- look-ups that found their key

pub found_count : (S : Keys) (ks : List ℕ) → count_by (λ t. t) (looked_up S ks) ≡ sum_by (λ k. cond (contains S k) 1 0) ks
found_count S [] = refl
found_count S (k ∷ ks) =
    sum_by-cons (λ t. cond t 1 0) (contains S k) (looked_up S ks)
    ∙ ap (λ n. cond (contains S k) 1 0 + n) (found_count S ks)
    ∙ sym (sum_by-cons (λ q. cond (contains S q) 1 0) k ks)

-- ---- answers

module _ (b : ℕ) (opening : List ℕ) (S : Keys) (pieces : List (List ℕ)) (made : List Made) (reads : List (List Kept)) (answers : List (List Bool)) (layout : Layout opening b S) (owned : AreOf (length pieces) made) (were : (w : ℕ) → w < length pieces → WereTrue opening (acts_of made) (piece reads w)) (done : (w : ℕ) → w < length pieces → IsDone Ask b (piece reads w) (piece pieces w) (own w made) (piece answers w)) where
  no_acts : made ≡ []
  no_acts = none_of_own (length pieces) made owned (λ w l. ask_has_no_act b (piece reads w) (piece pieces w) (own w made) (piece answers w) (done w l))

  pieces_asked : (w : ℕ) → w < length pieces → piece answers w ≡ looked_up S (piece pieces w)
  pieces_asked w l = piece_asked b opening S (piece reads w) (piece pieces w) (own w made) (piece answers w) layout (held_without_acts opening (acts_of made) (piece reads w) (ap acts_of no_acts) (were w l)) (done w l)

  pub answers_are_look_ups : (made ≡ []) × ((w : ℕ) → w < length pieces → piece answers w ≡ looked_up S (piece pieces w)) × (length answers ≡ length pieces → joined answers ≡ looked_up S (joined pieces))
  answers_are_look_ups = (no_acts, pieces_asked, λ size. joined_look_ups S pieces answers size pieces_asked)

-- ---- tallies

module _ (kind : Kind) (b : ℕ) (S : Keys) (pieces : List (List ℕ)) (made : List Made) (reads : List (List Kept)) (answers : List (List Bool)) (owned : AreOf (length pieces) made) (done : (w : ℕ) → w < length pieces → IsDone kind b (piece reads w) (piece pieces w) (own w made) (piece answers w)) where
  abbrev n : ℕ
  n = length pieces

  abbrev keys : List ℕ
  keys = joined pieces

  -- of all workers: how many keys are done, and how many of them were changed or found
  read_by_all : sum_upto (λ w. length (piece answers w)) n ≡ length keys
  read_by_all = upto_same (λ w. length (piece answers w)) (λ w. length (piece pieces w)) n (λ w l. as_many_answers kind b (piece reads w) (piece pieces w) (own w made) (piece answers w) (done w l)) ∙ upto_lengths pieces

  changed_by_all : (g : Act → ℕ) → ((w k : ℕ) (first : List Act) (so : Bool) → KeyDone kind b (piece reads w) k first so → cond so 1 0 ≡ sum_by g first)
      → sum_upto (λ w. how_many (piece answers w)) n ≡ sum_by g (acts_of made)
  changed_by_all g one =
      upto_same (λ w. how_many (piece answers w)) (λ w. sum_by g (own w made)) n (λ w l. answers_count g kind b (piece reads w) (piece pieces w) (own w made) (piece answers w) (one w) (done w l))
      ∙ upto_own g n made owned

abbrev tallies : Kind → List (List Bool) → ℕ → Tally
tallies kind answers w = counted kind (piece answers w)

insert_counts : (b : ℕ) (reads : List Kept) (k : ℕ) (first : List Act) (so : Bool) → KeyDone Insert b reads k first so → cond so 1 0 ≡ sum_by (λ a. 1) first
insert_counts b reads k first true (inl by) = ap (sum_by (λ (a : Act). 1)) (sym by.only)
insert_counts b reads k first false (inl by) = absurd by.does
insert_counts b reads k first so (inr by) = ap (λ (t : Bool). cond {A = ℕ} t 1 0) by.tells.0 ∙ ap (sum_by (λ (a : Act). 1)) (sym by.none)

tally_inserted : (b : ℕ) (S : Keys) (pieces : List (List ℕ)) (made : List Made) (reads : List (List Kept)) (answers : List (List Bool)) → AreOf (length pieces) made → ((w : ℕ) → w < length pieces → IsDone Insert b (piece reads w) (piece pieces w) (own w made) (piece answers w)) → set.len (set_after Insert S (joined pieces)) ≡ set.len S + length (acts_of made) → sum_of_all (λ w. counted Insert (piece answers w)) (length pieces) ≡ tally_of Insert S (joined pieces)
tally_inserted b S pieces made reads answers owned done grew =
    let n = length pieces in
    same_tally (sum_of_all (tallies Insert answers) n) (added_of (length (joined pieces)) (length (acts_of made)))
    (read_of_all (tallies Insert answers) n ∙ read_by_all Insert b S pieces made reads answers owned done)
    (added_of_all (tallies Insert answers) n ∙ changed_by_all Insert b S pieces made reads answers owned done (λ a. 1) (λ w. insert_counts b (piece reads w)) ∙ ones (acts_of made))
    (removed_of_all (tallies Insert answers) n ∙ upto_zero n)
    (found_of_all (tallies Insert answers) n ∙ upto_zero n)
    ∙ tally_of_insert S (joined pieces) (length (acts_of made)) grew

tally_removed : (b : ℕ) (S : Keys) (pieces : List (List ℕ)) (made : List Made) (reads : List (List Kept)) (answers : List (List Bool)) → AreOf (length pieces) made → ((w : ℕ) → w < length pieces → IsDone Remove b (piece reads w) (piece pieces w) (own w made) (piece answers w)) → set.len (set_after Remove S (joined pieces)) + count_by changes (acts_of made) ≡ set.len S → sum_of_all (λ w. counted Remove (piece answers w)) (length pieces) ≡ tally_of Remove S (joined pieces)
tally_removed b S pieces made reads answers owned done shrank =
    let n = length pieces in
    same_tally (sum_of_all (tallies Remove answers) n) (removed_of (length (joined pieces)) (count_by changes (acts_of made)))
    (read_of_all (tallies Remove answers) n ∙ read_by_all Remove b S pieces made reads answers owned done)
    (added_of_all (tallies Remove answers) n ∙ upto_zero n)
    (removed_of_all (tallies Remove answers) n ∙ changed_by_all Remove b S pieces made reads answers owned done (λ a. cond (changes a) 1 0) (λ w k first so one. key_counts Remove b (piece reads w) k first so (λ e. cc) one))
    (found_of_all (tallies Remove answers) n ∙ upto_zero n)
    ∙ tally_of_remove S (joined pieces) (count_by changes (acts_of made)) shrank

tally_asked : (b : ℕ) (S : Keys) (pieces : List (List ℕ)) (made : List Made) (reads : List (List Kept)) (answers : List (List Bool)) → AreOf (length pieces) made → ((w : ℕ) → w < length pieces → IsDone Ask b (piece reads w) (piece pieces w) (own w made) (piece answers w)) → ((w : ℕ) → w < length pieces → piece answers w ≡ looked_up S (piece pieces w)) → sum_of_all (λ w. counted Ask (piece answers w)) (length pieces) ≡ tally_of Ask S (joined pieces)
tally_asked b S pieces made reads answers owned done are =
    let n = length pieces in
    let found : sum_upto (λ w. how_many (piece answers w)) n ≡ how_many (looked_up S (joined pieces)) =
    upto_same (λ w. how_many (piece answers w)) (λ w. sum_by (λ k. cond (contains S k) 1 0) (piece pieces w)) n (λ w l. ap (count_by (λ t. t)) (are w l) ∙ found_count S (piece pieces w))
    ∙ upto_joined (λ k. cond (contains S k) 1 0) pieces
    ∙ sym (found_count S (joined pieces)) in
    same_tally (sum_of_all (tallies Ask answers) n) (record none_yet { read = length (joined pieces); found = how_many (looked_up S (joined pieces)) })
    (read_of_all (tallies Ask answers) n ∙ read_by_all Ask b S pieces made reads answers owned done)
    (added_of_all (tallies Ask answers) n ∙ upto_zero n)
    (removed_of_all (tallies Ask answers) n ∙ upto_zero n)
    (found_of_all (tallies Ask answers) n ∙ found)
    ∙ tally_of_ask S (joined pieces)

-- ---- cells and tally

pub phase_is_of_joined_lists : PhaseIsOfJoinedLists
phase_is_of_joined_lists Insert b opening S pieces made reads answers layout meet owned room were done =
    let got = phase_inserted b opening S pieces made reads answers layout meet owned room were done in
    (got.0, tally_inserted b S pieces made reads answers owned done got.1)
phase_is_of_joined_lists Remove b opening S pieces made reads answers layout meet owned room were done =
    let got = phase_removed b opening S pieces made reads answers layout meet owned done in
    (got.0, tally_removed b S pieces made reads answers owned done got.1)
phase_is_of_joined_lists Ask b opening S pieces made reads answers layout meet owned room were done =
    let got = answers_are_look_ups b opening S pieces made reads answers layout owned were done in (
      subst (λ (T : Keys). Layout (apply_acts (acts_of made) opening) b T) (sym (set_of_ask S (joined pieces))) (subst (λ (ms : List Made). Layout (apply_acts (acts_of ms) opening) b S) (sym got.0) layout),
      tally_asked b S pieces made reads answers owned done got.1,
    )
