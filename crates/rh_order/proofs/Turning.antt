-- How a run starts, and how it goes on with a further round.
use Rattle.std.proofs.Common.{◌≡◌, ℕ, ◌+◌, ◌<◌, inr, refl, sym, ap, ◌∙◌, subst, arith, List, [], ◌++◌, length, get_or, map, replicate}
use Rattle.std.specs.List.{slice_index}
use Rattle.std.proofs.lemmas.List.{append-nil, get_or-map, get_or_append_left, length-map}
use Rattle.std.proofs.lemmas.List.FromFn.{fill_by_all}
use Rattle.rh_tagword.specs.Word.{plain_number, tag_of}
use Rattle.rh_world.specs.World.{World}
use Rattle.rh_world.specs.Acts.{cells_after}
use Rattle.rh_world.specs.Claims.{Claims}
use Rattle.rh_world.specs.Ends.{opening_world}
use Rattle.rh_world.specs.Sides.{new_side}
use Rattle.rh_words.specs.declared.shape.Shape.{Shape}
use Rattle.rh_words.specs.Parts.{cell_count}
use Rattle.rh_words.specs.View.{View, new_view, round_view}
use Rattle.rh_words.specs.Words.{IsPlain}
use Rattle.rh_rule.specs.Core.{Core, Ruled}
use Rattle.rh_rule.specs.Rest.{AllRest}
use Rattle.rh_rule.specs.Wipes.{Wiped, row_total, wiping_view}
use Rattle.rh_rule.proofs.WipesKept.{table_starts, wipe_begins, wipe_ends}
use Rattle.rh_acts.specs.Act.{Act, apply_acts}
use Rattle.rh_acts.specs.Done.{IsDone, Kept}
use Rattle.rh_acts.specs.Workers.{Made, acts_of}
use Rattle.rh_acts.proofs.ActLemmas.{contains_none}
use Rattle.rh_acts.proofs.OwnLemmas.{none_of_own}
use Rattle.rh_order.specs.History.{history, kept_of, logical_cells, opening_cells, own_acts_of, value_of}
use Rattle.rh_order.proofs.Happening.{order_of_acts}
use Rattle.rh_order.proofs.Joining.{rounds_begin, rounds_follow}
use Rattle.rh_order.proofs.Resting.{at_rest}
use Rattle.rh_order.proofs.Values.{get_cells}
use Rattle.rh_order.specs.Laws.{RunRounds, RunStarts, WorkerStarts, WorkerTurns}
use Rattle.rh_order.specs.Run.{ProgressInvariant, Run, RunInvariant, progress}
use Rattle.rh_order.specs.Words.{IsWiped}
use Rattle.rh_order.proofs.Ending.{ended, own_is}
use Rattle.rh_order.proofs.Knowing.{nothing_held}
use Rattle.rh_order.proofs.Standing.{all_made, each_does, lead, meet, was, workers}

-- ---- the start

pub worker_starts : WorkerStarts
worker_starts kind z cells worker keys = record {
  orderly = ((rounds_begin z cells).0 worker).orderly;
  so_far = (refl, refl);
  opened = λ o i. absurd i;
  knows = nothing_held new_side worker refl refl;
}

plain_word : (value : ℕ) → IsPlain (plain_number value)
plain_word value = omega arith

value_back : (value : ℕ) → value_of (plain_number value) ≡ value
value_back value = omega arith

-- a table that was just made has no act, so that it begins with the cells that it holds
module _ (w : World) (z : Shape) (words cells plain_words : List ℕ) (core : Core w z words (new_view plain_words)) where
  all_new : AllRest z (new_view plain_words)
  all_new = record { still = λ v mine. refl; rest = λ v mine. record { closed = refl; settled = refl; paid = refl } }

  start_opens : length cells ≡ cell_count z → ((c : ℕ) → c < cell_count z → value_of (slice_index words c) ≡ slice_index cells c) → opening_cells w z ≡ cells
  start_opens long same =
      let so = order_of_acts w z words (new_view plain_words) core in
      let all = at_rest w z words (new_view plain_words) core all_new in
      let none : history w ≡ [] = none_of_own z.workers (history w) so.workers all.acts in
      let stand : ℕ → ℕ = cells_after w w.act_count in
      sym (so.cells ∙ ap (λ (made : List Made). apply_acts (acts_of made) (opening_cells w z)) none)
      ∙ sym (fill_by_all (λ c. value_of (stand c)) cells (cell_count z) 0 long (λ c inside. sym (same c inside) ∙ all.cells c inside ∙ get_cells z stand c inside))

pub run_starts : RunStarts
run_starts kind z cells keys long =
    let plain_words = map plain_number cells in
    let words = plain_words ++ replicate {A = ℕ} (row_total z + 1) 0 in
    let sized : length plain_words ≡ cell_count z = length-map cells plain_number ∙ long in
    let word_is : (c : ℕ) → c < cell_count z → slice_index plain_words c ≡ plain_number (slice_index cells c) = λ c inside. get_or-map plain_number cells c 0 0 (omega (arith, long)) in
    let front : (c : ℕ) → c < cell_count z → slice_index words c ≡ plain_number (slice_index cells c) = λ c inside. get_or_append_left plain_words (replicate {A = ℕ} (row_total z + 1) 0) 0 c (omega (arith, sized)) ∙ word_is c inside in
    let ruled = table_starts z plain_words sized (λ c inside. subst IsPlain (sym (word_is c inside)) (plain_word (slice_index cells c))) in
    record {
      world = ruled.0;
      core = ruled.1;
      before = [];
      reads = λ v. [];
      meet = tt;
      cells = start_opens ruled.0 z words cells plain_words ruled.1 long (λ c inside. ap (λ u. value_of u) (front c inside) ∙ value_back (slice_index cells c));
      workers = λ m h. absurd (contains_none m h);
      acts = λ m h. absurd (contains_none m h);
      was = λ v mine r h. absurd (contains_none r h);
      doing = λ v mine. worker_starts kind z plain_words v (keys v);
    }

-- ---- a further round

pub worker_turns : WorkerTurns
worker_turns kind z cells p is =
    let made = p.acts ++ own_acts_of p.view in
    let known = p.reads ++ kept_of z p.view in
    record {
      orderly = ((rounds_begin z cells).1 p.view).orderly;
      so_far = subst (λ (reads : List Kept). IsDone kind z.bits reads p.done (made ++ []) p.answers) (sym (append-nil known))
          (subst (λ (acts : List Act). IsDone kind z.bits known p.done acts p.answers) (sym (append-nil made)) is.so_far);
      opened = λ o i. absurd i;
      knows = nothing_held (record new_side { claims = p.view.side.claims }) p.view.worker refl refl;
    }

module _ (r : Run) (then cells : List ℕ) (rest : AllRest r.shape r.keep) (same : (c : ℕ) → c < cell_count r.shape → get_or r.words c 0 ≡ get_or cells c 0) (wiped : IsWiped r.shape r.words then) (run : RunInvariant r) where
  -- the wipe begins, and then all row words are cleared
  begun : Wiped r.shape r.words (λ v. wiping_view cells 0 (r.keep v))
  begun = wipe_begins run.world r.shape r.words cells r.keep rest run.core same

  cleared : Wiped r.shape then (λ v. wiping_view cells (row_total r.shape) (r.keep v))
  cleared = record {
    cells = cells;
    cleared = row_total r.shape;
    sized = wiped.size ∙ begun.sized;
    worker = begun.worker;
    wiping = λ v mine. refl;
    same = λ c inside. wiped.cells c inside ∙ same c inside;
    plain = λ c inside. ap (λ (u : ℕ). tag_of u) (wiped.cells c inside) ∙ begun.plain c inside;
    zeros = wiped.rows;
    shared = record {
      claims = begun.shared.claims;
      kept = begun.shared.kept;
      share = subst (λ (n : ℕ). Claims (opening_world r.shape.workers r.shape.keys n (λ c. 0)) (λ v. record new_side { claims = begun.shared.claims v })) (sym wiped.counter) begun.shared.share;
      beyond = begun.shared.beyond;
    };
  }

  abbrev next : ℕ → View
  next v = round_view cells (r.keep v)

  ruled : Ruled r.shape then next
  ruled = wipe_ends r.shape then cells (λ v. wiping_view cells (row_total r.shape) (r.keep v)) (λ v mine. refl) (inr cleared)

  goes_on_from : opening_cells ruled.0 r.shape ≡ logical_cells run.world r.shape
  goes_on_from =
      let all = ended r run rest in
      rounds_follow ruled.0 r.shape next 0 (logical_cells run.world r.shape) (order_of_acts ruled.0 r.shape then next ruled.1) r.shape.some_worker all.size
      (λ c inside. ap (λ u. value_of u) (sym (same c inside)) ∙ all.cells c inside)

  abbrev reads : ℕ → List Kept
  reads v = run.reads v ++ kept_of r.shape (r.keep v)

  abbrev made : List Made
  made = all_made r run

  abbrev run_then : Run
  run_then = record r { words = then; keep = next }

  doing : (v : ℕ) → v < r.shape.workers → ProgressInvariant r.shape r.kind (progress run_then made reads v)
  doing v mine = subst (λ (acts : List Act). ProgressInvariant r.shape r.kind (record (progress run_then made reads v) { acts = acts })) (sym (own_is r run rest v mine))
      (worker_turns r.kind r.shape cells (progress r run.before run.reads v) (run.doing v mine))

  turned : RunInvariant run_then
  turned = record {
    world = ruled.0;
    core = ruled.1;
    before = made;
    reads = reads;
    meet = meet r run;
    cells = goes_on_from ∙ lead r run;
    workers = workers r run;
    acts = each_does r run;
    was = was r run;
    doing = doing;
  }

pub run_rounds : RunRounds
run_rounds r then cells rest same wiped run =
    turned r then cells rest same wiped run
