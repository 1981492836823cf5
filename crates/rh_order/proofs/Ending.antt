-- What the workers have made at the end of a run.
use Rattle.std.proofs.Common.{◌≡◌, ℕ, zero, suc, ◌<◌, refl, sym, ap, ◌∙◌, subst, arith, Bool, List, [], ◌++◌, length, map}
use Rattle.std.specs.List.{range_with_len, slice_index}
use Rattle.std.proofs.lemmas.List.FromFn.{get_or-map-range_with_len, fill_by_all}
use Rattle.rh_layout.specs.Layout.{Keys, Layout}
use Rattle.rh_ledger.specs.declared.tally.Kind.{Kind}
use Rattle.rh_ledger.specs.declared.tally.Tally.{Tally}
use Rattle.rh_ledger.specs.Tally.{sum_of}
use Rattle.rh_ledger.specs.Phase.{set_after}
use Rattle.rh_words.specs.Parts.{cell_count}
use Rattle.rh_rule.specs.Rest.{AllRest}
use Rattle.rh_acts.specs.Act.{Act, apply_acts}
use Rattle.rh_acts.specs.Done.{IsDone, Kept, WereTrue}
use Rattle.rh_acts.specs.Workers.{AreOf, LeavesRoom, Made, acts_of, counted, joined, own, piece, sum_of_all}
use Rattle.rh_acts.proofs.PhaseLaws.{phase_is_of_joined_lists}
use Rattle.rh_order.specs.History.{kept_of, logical_cells, own_acts_of, value_of}
use Rattle.rh_order.specs.Histories.{RestSpec}
use Rattle.rh_order.proofs.Resting.{at_rest}
use Rattle.rh_order.specs.Laws.{FinalSpec, RunEnds}
use Rattle.rh_order.specs.Run.{Run, RunInvariant}
use Rattle.rh_order.specs.Words.{AreNow, cells_held}
use Rattle.rh_order.proofs.Standing.{all_made, are_now, both, lead, meet, was, workers}

-- a list for each of the first n workers
abbrev pub lists_of : {X : Type 0} → (f : ℕ → List X) (n : ℕ) → List (List X)
lists_of f n = map f (range_with_len 0 n)

pub piece_of : {X : Type 0} (f : ℕ → List X) (n v : ℕ) → v < n → piece (lists_of f n) v ≡ f v
piece_of f n v l = get_or-map-range_with_len f 0 n v v [] l (omega arith)

pub same_sums : (s t : ℕ → Tally) (n : ℕ) → ((v : ℕ) → v < n → s v ≡ t v) → sum_of_all s n ≡ sum_of_all t n
same_sums s t zero same = refl
same_sums s t (suc n) same =
    let rest : sum_of_all s n ≡ sum_of_all t n = same_sums s t n (λ v l. same v (omega arith)) in
    let last : s n ≡ t n = same n (omega arith) in
    λ i. sum_of (rest i) (last i)

done_as : (kind : Kind) (b : ℕ) (reads more : List Kept) (keys list : List ℕ) (acts made : List Act) (answers others : List Bool)
    → reads ≡ more → keys ≡ list → acts ≡ made → answers ≡ others → IsDone kind b reads keys acts answers → IsDone kind b more list made others
done_as kind b reads more keys list acts made answers others p q r s h =
    subst (λ (x : List Kept). IsDone kind b x list made others) p
    (subst (λ (x : List ℕ). IsDone kind b reads x made others) q
    (subst (λ (x : List Act). IsDone kind b reads keys x others) r
    (subst (λ (x : List Bool). IsDone kind b reads keys acts x) s h)))

module _ (r : Run) (run : RunInvariant r) (rest : AllRest r.shape r.keep) where
  abbrev made : List Made
  made = all_made r run

  pub ended : RestSpec run.world r.shape r.words r.keep
  ended = at_rest run.world r.shape r.words r.keep run.core rest

  -- where all are at rest, each worker's acts are finished
  pub own_is : (v : ℕ) → v < r.shape.workers → own v made ≡ own v run.before ++ own_acts_of (r.keep v)
  own_is v mine = (both r run).acts v ∙ ap (λ (acts : List Act). own v run.before ++ acts) (ended.acts v mine)

  cells_are : cells_held r.shape r.words ≡ apply_acts (acts_of made) r.opening
  cells_are =
      sym (fill_by_all (λ c. value_of (slice_index r.words c)) (logical_cells run.world r.shape) (cell_count r.shape) 0 ended.size (λ c inside. sym (ended.cells c inside)))
      ∙ lead r run

  -- what the cells hold is what they stand for
  pub held_now : AreNow r.shape r.words r.keep (cells_held r.shape r.words)
  held_now = subst (AreNow r.shape r.words r.keep) (sym cells_are) (are_now r run)

  module _ (S : Keys) (pieces : List (List ℕ)) (layout : Layout r.opening r.shape.bits S) (size : length pieces ≡ r.shape.workers) (all_done : (v : ℕ) → v < r.shape.workers → r.done v ≡ piece pieces v) where
    abbrev n : ℕ
    n = length pieces

    abbrev reads : List (List Kept)
    reads = lists_of (λ v. run.reads v ++ kept_of r.shape (r.keep v)) n

    abbrev tells : List (List Bool)
    tells = lists_of r.answers n

    of_workers : AreOf n made
    of_workers = subst (λ (count : ℕ). AreOf count made) (sym size) (workers r run)

    were : (v : ℕ) → v < n → WereTrue r.opening (acts_of made) (piece reads v)
    were v l = subst (WereTrue r.opening (acts_of made)) (sym (piece_of (λ u. run.reads u ++ kept_of r.shape (r.keep u)) n v l)) (was r run v (omega (arith, size)))

    -- each worker has done its list
    are_done : (v : ℕ) → v < n → IsDone r.kind r.shape.bits (piece reads v) (piece pieces v) (own v made) (piece tells v)
    are_done v l =
        let mine : v < r.shape.workers = omega (arith, size) in
        done_as r.kind r.shape.bits (run.reads v ++ kept_of r.shape (r.keep v)) (piece reads v) (r.done v) (piece pieces v) (own v run.before ++ own_acts_of (r.keep v)) (own v made) (r.answers v) (piece tells v)
        (sym (piece_of (λ u. run.reads u ++ kept_of r.shape (r.keep u)) n v l)) (all_done v mine) (sym (own_is v mine)) (sym (piece_of r.answers n v l)) (run.doing v mine).so_far

    pub ends : LeavesRoom r.kind r.shape.bits S (joined pieces) → FinalSpec r S (joined pieces)
    ends room =
        let phase = phase_is_of_joined_lists r.kind r.shape.bits r.opening S pieces made reads tells layout (meet r run) of_workers room were are_done in
        record {
          layout = subst (λ (cells : List ℕ). Layout cells r.shape.bits (set_after r.kind S (joined pieces))) (sym cells_are) phase.0;
          tally =
              ap (sum_of_all (λ v. counted r.kind (r.answers v))) (sym size)
              ∙ same_sums (λ v. counted r.kind (r.answers v)) (λ v. counted r.kind (piece tells v)) n (λ v l. ap (counted r.kind) (sym (piece_of r.answers n v l)))
              ∙ phase.1;
        }

pub run_ends : RunEnds
run_ends r S pieces run rest layout size all_done room =
    ends r run rest S pieces layout size all_done room
