-- How a phase begins.
use Rattle.std.proofs.Common.{◌≡◌, ℕ, ◌+◌, ◌<◌, ◌≤◌, ⊎_elim, All, List, [], ◌++◌, false, true, true≢false, length, map, replicate, refl, sym, ap, ◌∙◌, subst, arith, zero-add, Bool}
use Rattle.std.specs.Prelude.{◌^◌, slice_index, slice_index_or}
use Rattle.std.specs.FinSet as set
use Rattle.std.proofs.lemmas.Bool.{cases_eq}
use Rattle.std.proofs.lemmas.List.{get_or-replicate, length-replicate}
use mathlib.Core.Option.{some}
use lib.ListN.{get_elem?}
use Rattle.std.proofs.Math.Pow.{pow-lt}
use Rattle.rh_layout.specs.Key.{IsBits, IsKey, cell_of, key_in}
use Rattle.rh_layout.specs.Layout.{IsLayout, Keys}
use Rattle.rh_layout.specs.declared.limits.TheConstants.{MAX_KEY}
use Rattle.rh_ledger.specs.declared.tally.Kind.{Kind}
use Rattle.rh_ledger.specs.declared.tally.Kind.TheVariants.{Insert, Remove, Ask}
use Rattle.rh_ledger.specs.Phase.{most_added, tally_of}
use Rattle.rh_ledger.proofs.PhaseLemmas.{len-insert_all}
use Rattle.rh_tagword.specs.Word.{IsValue, plain_number}
use Rattle.rh_acts.specs.Workers.{LeavesRoom}
use Rattle.rh_acts.proofs.ActLemmas.{contains_none}
use Rattle.rh_acts.proofs.FoldLemmas.{added_len, removed_len}
use Rattle.rh_rule.specs.declared.rule.Sitter.{Sitter}
use Rattle.rh_words.specs.declared.shape.Shape.{Shape}
use Rattle.rh_words.specs.Parts.{cell_count}
use Rattle.rh_words.specs.View.{new_view}
use Rattle.rh_rule.specs.Seats.{InView, first_view, sitter}
use Rattle.rh_rule.proofs.SeatsKept.{new_at, there}
use Rattle.rh_shared.specs.declared.table.Table.{Table}
use Rattle.rh_world.specs.World.{In}
use Rattle.rh_rule.specs.Wipes.{row_total}
use Rattle.rh_order.specs.Run.{ProgressInvariant, RunInvariant}
use Rattle.rh_order.specs.Laws.{started}
use Rattle.rh_order.proofs.Turning.{run_starts}
use Rattle.rh_shared.specs.Crews.{HasAll, IsFresh, views_of}
use Rattle.rh_threads.specs.Crew.{CanWork}
use Rattle.rh_threads.specs.Hands.{HandStands, answer_at, left_over, progress_by}
use Rattle.rh_threads.specs.Made.{AreNew, IsNew}
use Rattle.rh_threads.specs.Rounds.{Comes, Setting, at_table, past_of}
use Rattle.rh_threads.specs.declared.crew.Crew.{Crew}
use Rattle.rh_threads.specs.declared.hand.Hand.{Hand}
use Rattle.rh_threads.proofs.Crews.{at_or}
use Rattle.rh_threads.proofs.Gathering.{all_at}
use Rattle.rh_threads.proofs.Sums.{count_in}

-- a cell of a layout holds a value
pub is_value : (bits : ℕ) (cells : List ℕ) (c : ℕ) → IsLayout bits cells → c < length cells → IsValue (slice_index cells c)
is_value bits cells c layout inside = ⊎_elim
    (λ (none : slice_index cells c ≡ 0). omega (arith, none))
    (λ full_cell.
    let key : ℕ = key_in (slice_index cells c) in
    let is : slice_index cells c ≡ cell_of key = full (slice_index cells c) full_cell in
    let small : key ≤ MAX_KEY = layout.keys key (layout.no_other c key (inside, is)) in
    omega (arith, is, small)) (cases_eq (slice_index cells c) 0)
  where
    full : (v : ℕ) → (v ≡ 0 → ⊥) → v ≡ cell_of (key_in v)
    full v full_cell = omega (arith, full_cell)

-- ---- room

pub small : (b : ℕ) → IsBits b → 2 ^ b < 2 ^ 64
small b is = pow-lt {j = 64} (let most = is.1 in omega (arith, most))

pub leaves_room : (kind : Kind) (b : ℕ) (S : Keys) (keys : List ℕ) → set.len S + most_added kind keys < 2 ^ b → LeavesRoom kind b S keys
leaves_room Insert b S keys room = let most = len-insert_all S keys in omega (arith, room, most)
leaves_room Remove b S keys room = tt
leaves_room Ask b S keys room = tt

pub few_changed : (kind : Kind) (b : ℕ) (S : Keys) (keys : List ℕ) → 2 ^ b < 2 ^ 64 → set.len S + most_added kind keys < 2 ^ b → (kind ≡ Ask → ⊥) → count_in kind (tally_of kind S keys) < 2 ^ 64
few_changed Insert b S keys small room changes = let most = len-insert_all S keys in let added = added_len S keys in omega (arith, small, room, most, added)
few_changed Remove b S keys small room changes = let removed = removed_len S keys in omega (arith, small, room, removed)
few_changed Ask b S keys small room changes = absurd (changes refl)

-- ---- the start

module _ (ph : Setting) (t : Table) (c : Crew) (shape_is : t.shape ≡ ph.shape) (all : HasAll t c.seat) (fresh : InView IsFresh (views_of c.seat)) (views : views_of c.seat ≡ first_view ph.shape (map plain_number ph.opening)) (hands : AreNew ph.shape ph.kind ph.positions c.hands) (list : ph.shape.keys ≡ length ph.keys) (keys_are : All IsKey ph.keys) where
  new : AreNew t.shape ph.kind ph.positions c.hands
  new = subst (λ (y : Shape). AreNew y ph.kind ph.positions c.hands) (sym shape_is) hands

  view_is : (r : ℕ) (s : Sitter) → get_elem? (views_of c.seat) r ≡ some s → s ≡ sitter (new_view (map plain_number ph.opening) r) []
  view_is r s e = new_at (map plain_number ph.opening) 0 t.shape.workers r s (subst (λ (l : List Sitter). get_elem? l r ≡ some s) (subst (λ (y : Shape). views_of c.seat ≡ first_view y (map plain_number ph.opening)) (sym shape_is) views) e) ∙ (λ i. sitter (new_view (map plain_number ph.opening) (zero-add r i)) [])

  new_hand : (r : ℕ) (h : Hand) → get_elem? c.hands r ≡ some h → IsNew t.shape ph.kind ph.positions h
  new_hand r h at = subst (IsNew t.shape ph.kind ph.positions) (at_or c.hands r h h at) (new.each r h (there c.hands r h at))

  pub can_begin : CanWork t ph.keys c
  can_begin = record {
    crew = record {
      here = all_at t c.seat all;
      long = new.long ∙ sym all.count;
      hands = λ r s h e f. let n = new_hand r h f in record {
        room = n.room;
        within = λ has. absurd (true≢false (sym has ∙ n.no_key));
        claims = record {
          below = λ _ m i. absurd (subst (λ (k : Sitter). In m k.view.side.claims) (view_is r s e) i);
          ended = λ ended. absurd (true≢false (sym ended ∙ n.to_claim));
        };
      };
      list = ap (λ (y : Shape). y.keys) shape_is ∙ list;
      keys_are = keys_are;
    };
    fresh = fresh;
  }

  pub comes_first : length ph.opening ≡ cell_count ph.shape → Comes (at_table t ph.keys ph) (views_of c.seat) c.hands
  comes_first long = record {
    words = map plain_number ph.opening ++ replicate (row_total t.shape + 1) 0;
    keep = new_view (map plain_number ph.opening);
    done = λ v. [];
    answers = λ v. [];
    run = run;
    stands = λ r s h e f.
        let n = new_hand r h f in
        let less : r < t.shape.workers = let l = there c.hands r h f in let w = new.long in omega (arith, l, w) in
        subst (λ (k : Sitter). HandStands t.shape ph.keys (past_of ph.positions run k.view.worker) h k.view) (sym (view_is r s e)) (record {
          kind_is = n.kind_is;
          answers = [];
          doing = subst (λ (k : Kind). ProgressInvariant t.shape k (progress_by ph.keys (past_of ph.positions run r) (new_view (map plain_number ph.opening) r) [])) (sym n.kind_is) (run.doing r less);
          answered = record {
            claimed_are = ap (λ (b : Bool). left_over b h.position) (sym n.no_key);
            done_are = n.none_done;
            counts = n.unchanged;
            marks = λ p inside. ((λ is. absurd (true≢false (sym is ∙ unmarked h n p inside))), (λ has. absurd (contains_none (answer_at p true) has)));
          };
          opening = refl;
          long = ap length n.unmarked ∙ length-replicate ph.positions false;
        });
  }
    where
      run : RunInvariant (started ph.kind t.shape ph.opening (λ v. ph.keys))
      run = run_starts ph.kind t.shape ph.opening (λ v. ph.keys) (long ∙ ap (λ (y : Shape). cell_count y) (sym shape_is))

      unmarked : (h : Hand) → IsNew t.shape ph.kind ph.positions h → (p : ℕ) → p < length h.found.items → slice_index_or h.found.items p false ≡ false
      unmarked h n p inside = ap (λ (l : List Bool). slice_index_or l p false) n.unmarked ∙ get_or-replicate ph.positions p false false (let e : length h.found.items ≡ ph.positions = ap length n.unmarked ∙ length-replicate ph.positions false in omega (arith, inside, e))
