-- What a phase makes, once all keys of its list are done.
use Rattle.std.proofs.Common.{◌≡◌, ◌≢◌, ℕ, ◌<◌, min, Bool, true, false, List, ◌++◌, length, map, All, sym, ap, ◌∙◌, subst, arith}
use Rattle.std.specs.Prelude.{◌-◌, ◌^◌, slice_index, slice_index_or}
use Rattle.std.specs.List.{Contains}
use Rattle.std.specs.FinSet.{contains}
use Rattle.std.proofs.lemmas.List.{append-nil, get_or-map, length-map}
use Rattle.std.proofs.lemmas.List.FromFn.{fill_by_all}
use Rattle.std.proofs.lemmas.Simd.{map-map}
use mathlib.Core.Option.{some, some-injective}
use lib.ListN.{get_elem?}
use Rattle.rh_layout.specs.Layout.{Keys, Layout, keys_of}
use Rattle.rh_ledger.specs.declared.tally.Kind.TheVariants.{Ask}
use Rattle.rh_ledger.specs.Phase.{set_after, tally_of}
use Rattle.rh_tagword.specs.Word.{plain_number}
use Rattle.rh_acts.specs.Shared.{IsSharedOut}
use Rattle.rh_acts.specs.Workers.{LeavesRoom, how_many}
use Rattle.rh_ledger.specs.Tally.{tally_by}
use Rattle.rh_rule.specs.declared.rule.Sitter.{Sitter}
use Rattle.rh_words.specs.Parts.{cell_count}
use Rattle.rh_order.specs.History.{value_of}
use Rattle.rh_rule.specs.Seats.{AreMade, Spans}
use Rattle.rh_rule.proofs.SeatsKept.{item_at, there}
use Rattle.rh_order.specs.Claimed.{FoundEnd, all_claimed, claimed}
use Rattle.rh_order.specs.Laws.{FinalSpec}
use Rattle.rh_order.specs.Run.{Run}
use Rattle.rh_order.specs.Words.{cells_held}
use Rattle.rh_order.proofs.Answering.{run_answers}
use Rattle.rh_order.proofs.Sharing.{claims_at, claims_size, run_shared_ends, shared_out}
use Rattle.rh_shared.specs.Ends.{Leaves}
use Rattle.rh_threads.specs.Hands.{KeyAnswer, InPairs, IsFinished, IsHand, answer_at, keys_done, left_over, positions_of, without_positions}
use Rattle.rh_threads.specs.Made.{HasWorkedOut, first_set}
use Rattle.rh_threads.specs.Rounds.{Comes, Setting, all_changed, is_marked, run_of}
use Rattle.rh_threads.specs.declared.hand.Hand.{Hand}
use Rattle.rh_threads.proofs.Crews.{at_or}
use Rattle.rh_threads.proofs.Gathering.{Gathered, gathered}
use Rattle.rh_threads.proofs.Sums.{alike_at, all_changed_is, by_one, count_in, count_sum, marked_by, of_mapped, one_of_sum, same_truth, sum_below, tally_is}

value_back : (value : ℕ) → value_of (plain_number value) ≡ value
value_back value = omega arith

module _ (ph : Setting) (vs : List Sitter) (hs : List Hand) (values : List ℕ) (spans : Spans vs 0 ph.shape.workers) (long : length hs ≡ ph.shape.workers) (comes : Comes ph vs hs) (leaves : Leaves ph.shape vs values) (list : ph.shape.keys ≡ length ph.keys) (finished : All IsFinished hs) (hands : InPairs (λ v h. IsHand ph.shape ph.keys h v) vs hs) (layout : Layout ph.opening ph.shape.bits (keys_of ph.opening)) (room : LeavesRoom ph.kind ph.shape.bits (keys_of ph.opening) ph.keys) where
  abbrev m : AreMade ph.shape vs
  m = leaves.made

  abbrev S : Keys
  S = first_set ph

  ga : Gathered ph m.words m.keep hs
  ga = gathered ph vs hs spans long comes m

  abbrev done : ℕ → List ℕ
  done v = keys_done ph.keys (ga.answers v)

  abbrev plain_answers : ℕ → List Bool
  plain_answers v = without_positions (ga.answers v)

  is_finished : (v : ℕ) (h : Hand) → get_elem? hs v ≡ some h → IsFinished h
  is_finished v h at = subst IsFinished (at_or hs v h h at) (finished v h (there hs v h at))

  found_end : (v : ℕ) → v < ph.shape.workers → FoundEnd ph.shape (m.keep v)
  found_end v less =
      let s = item_at vs v (let l = spans.long in omega (arith, l, less)) in
      let by = ga.each v less in
      subst (FoundEnd ph.shape) (sym (m.of_view v s.0 s.1)) ((hands v s.0 by.hand s.1 by.at).claims.ended (is_finished v by.hand by.at).ended)

  claimed_are : (v : ℕ) → v < ph.shape.workers → claimed ph.shape (m.keep v) ≡ positions_of (ga.answers v)
  claimed_are v less =
      let by = ga.each v less in
      by.answered.claimed_are ∙ ap (λ (b : Bool). positions_of (ga.answers v) ++ left_over b by.hand.position) (is_finished v by.hand by.at).no_key ∙ append-nil (positions_of (ga.answers v))

  all_done : (v : ℕ) → v < ph.shape.workers → done v ≡ map (slice_index ph.keys) (claimed ph.shape (m.keep v))
  all_done v less = sym (ap (map (slice_index ph.keys)) (claimed_are v less) ∙ map-map (slice_index ph.keys) (λ (a : KeyAnswer). a.position) (ga.answers v))

  abbrev run : Run
  run = run_of ph m.words m.keep done plain_answers

  ends : FinalSpec run S ph.keys
  ends = run_shared_ends run S ph.keys ga.run m.rest layout (sym list) found_end all_done room

  cells_are : cells_held ph.shape m.words ≡ values
  cells_are = sym (fill_by_all (λ c. value_of (slice_index m.words c)) values (cell_count ph.shape) 0 size (λ c inside.
      sym (value_back (slice_index values c)) ∙ ap (λ (w : ℕ). value_of w) (sym (m.front c inside ∙ ap (λ (l : List ℕ). slice_index l c) leaves.values_are ∙ get_or-map plain_number values c 0 0 (omega (arith, inside, size))))))
    where
      size : length values ≡ cell_count ph.shape
      size = sym (length-map values plain_number) ∙ ap length (sym leaves.values_are) ∙ m.long

  -- ---- the tally

  module _ (few : count_in ph.kind (tally_of ph.kind S ph.keys) < 2 ^ 64) where
    sum_is : sum_below (λ v. how_many (plain_answers v)) ph.shape.workers ≡ count_in ph.kind (tally_of ph.kind S ph.keys)
    sum_is = sym (count_sum ph.kind plain_answers ph.shape.workers) ∙ ap (count_in ph.kind) ends.tally

    changed_is : (v : ℕ) (h : Hand) → get_elem? hs v ≡ some h → h.changed ≡ how_many (plain_answers v)
    changed_is v h at =
        let less : v < ph.shape.workers = let l = there hs v h at in omega (arith, l, long) in
        let by = ga.each v less in
        let same : by.hand ≡ h = some-injective by.hand h (sym by.at ∙ at) in
        let counts : h.changed ≡ min (how_many (plain_answers v)) (2 ^ 64 - 1) = subst (λ (g : Hand). g.changed ≡ min (how_many (plain_answers v)) (2 ^ 64 - 1)) same by.answered.counts in
        let one = one_of_sum (λ u. how_many (plain_answers u)) ph.shape.workers v less in
        let sum = sum_is in
        omega (arith, counts, one, sum, few)

    pub changed_all : all_changed hs ≡ count_in ph.kind (tally_of ph.kind S ph.keys)
    changed_all = all_changed_is hs (λ v. how_many (plain_answers v)) changed_is ∙ ap (sum_below (λ v. how_many (plain_answers v))) long ∙ sum_is

    pub tally_made : tally_by ph.kind (length ph.keys) (all_changed hs) ≡ tally_of ph.kind S ph.keys
    tally_made = ap (tally_by ph.kind (length ph.keys)) changed_all ∙ tally_is ph.kind S ph.keys

  -- ---- the answers

  module _ (asks : ph.kind ≡ Ask) where
    answer_is : (v : ℕ) → v < ph.shape.workers → (a : KeyAnswer) → Contains (ga.answers v) a → a.answer ≡ contains S (slice_index ph.keys a.position)
    answer_is v less a has = alike_at (λ (x : KeyAnswer). x.answer) (λ (x : KeyAnswer). contains S (slice_index ph.keys x.position)) (ga.answers v) a
        (run_answers run S ga.run layout asks v less ∙ map-map (contains S) (λ (x : KeyAnswer). slice_index ph.keys x.position) (ga.answers v)) has

    pub found_made : (p : ℕ) → p < length ph.keys → p < ph.positions → is_marked hs p ≡ contains S (slice_index ph.keys p)
    found_made p inside within = same_truth (is_marked hs p) (contains S (slice_index ph.keys p)) there_is back
      where
        there_is : is_marked hs p ≡ true → contains S (slice_index ph.keys p) ≡ true
        there_is is =
            let one = marked_by hs p is in
            let less : one.0 < ph.shape.workers = let l = there hs one.0 one.1 one.2 in omega (arith, l, long) in
            let by = ga.each one.0 less in
            let same : by.hand ≡ one.1 = some-injective by.hand one.1 (sym by.at ∙ one.2) in
            let at : slice_index_or by.hand.found.items p false ≡ true = subst (λ (g : Hand). slice_index_or g.found.items p false ≡ true) (sym same) one.3 in
            sym (answer_is one.0 less (answer_at p true) ((by.answered.marks p (let l = by.long in omega (arith, within, l))).0 at))

        back : contains S (slice_index ph.keys p) ≡ true → is_marked hs p ≡ true
        back is =
            let shared : IsSharedOut ph.shape.keys (all_claimed ph.shape m.keep) = shared_out m.w ph.shape m.words m.keep m.core found_end in
            let one = shared.all p (omega (arith, inside, list)) in
            let size = claims_size m.w ph.shape m.words m.keep m.core in
            let less : one.0 < ph.shape.workers = let l = one.1 in omega (arith, l, size) in
            let here : Contains (positions_of (ga.answers one.0)) p = subst (λ (l : List ℕ). Contains l p) (claims_at m.w ph.shape m.words m.keep m.core one.0 less ∙ claimed_are one.0 less) one.2 in
            let a = of_mapped (λ (x : KeyAnswer). x.position) (ga.answers one.0) p here in
            let so : a.0.answer ≡ true = answer_is one.0 less a.0 a.1 ∙ ap (λ (q : ℕ). contains S (slice_index ph.keys q)) a.2 ∙ is in
            let it : Contains (ga.answers one.0) (answer_at p true) = subst (Contains (ga.answers one.0)) (λ i. answer_at (a.2 i) (so i)) a.1 in
            let by = ga.each one.0 less in
            by_one hs p one.0 by.hand by.at ((by.answered.marks p (let l = by.long in omega (arith, within, l))).1 it)

  pub has_made : (ph.kind ≢ Ask → count_in ph.kind (tally_of ph.kind S ph.keys) < 2 ^ 64) → HasWorkedOut ph values hs
  has_made few = record {
    layout = subst (λ (cells : List ℕ). Layout cells ph.shape.bits (set_after ph.kind S ph.keys)) cells_are ends.layout;
    few = λ changes. subst (λ (n : ℕ). n < 2 ^ 64) (sym (changed_all (few changes))) (few changes);
    tally = λ changes. tally_made (few changes);
    found = found_made;
  }
