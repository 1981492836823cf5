-- A round is gathered from what each worker's hand says, its table is wiped, and the next round is begun.
use Rattle.std.proofs.Common.{◌≡◌, ◌≢◌, ℕ, zero, suc, ◌<◌, ⊎_elim, List, [], length, refl, sym, ap, ◌∙◌, subst, arith, zero-add, ◌+◌, ◌∷◌, ◌++◌, length-append, length-take-le, get_or-take, replicate, take}
use mathlib.Core.Option.{some, some-injective}
use lib.ListN.{get_elem?}
use Rattle.rh_ledger.specs.declared.tally.Kind.{Kind}
use Rattle.rh_world.specs.World.{updated}
use Rattle.rh_world.proofs.Updated.{same_nat, updated_else, updated_here}
use Rattle.rh_rule.specs.declared.rule.Sitter.{Sitter}
use Rattle.rh_words.specs.View.{View, round_view}
use Rattle.rh_rule.specs.Seats.{AreMade, Spans, all_views, sitter, InView}
use Rattle.rh_rule.proofs.SeatsKept.{item_at, of_map, there}
use Rattle.rh_order.specs.Run.{ProgressInvariant, RunInvariant}
use Rattle.rh_order.specs.Words.{IsWiped}
use Rattle.rh_order.proofs.Stepping.{run_gathers}
use Rattle.rh_order.proofs.Turning.{run_rounds}
use Rattle.rh_threads.specs.Hands.{KeyAnswer, Answered, Past, HandStands, keys_done, progress_by, without_positions, InPairs, IsHand}
use Rattle.rh_threads.specs.Rounds.{Comes, Setting, past_of, run_of, at_table}
use Rattle.rh_threads.specs.declared.hand.Hand.{Hand}
use Rattle.std.specs.Prelude.{slice_index}
use Rattle.std.proofs.lemmas.List.{get_or-replicate, get_or-append-add, get_or_append_left, length-replicate}
use Rattle.std.proofs.Math.Seq.{get_or-append_seam}
use Rattle.rh_words.specs.declared.shape.Shape.{Shape}
use Rattle.rh_words.specs.declared.shape.Part.TheVariants as part
use Rattle.rh_words.specs.Parts.{cell_count, word_count}
use Rattle.rh_rule.specs.Represents.{word_at}
use Rattle.rh_rule.specs.Wipes.{row_total}
use Rattle.rh_shared.specs.declared.seat.Seat.{Seat}
use Rattle.rh_shared.specs.declared.table.Table.{Table}
use Rattle.rh_shared.specs.Crews.{HasAll, SitsAt, IsFresh, views_of}
use Rattle.rh_shared.specs.Ends.{IsWiped as AreWiped}
use Rattle.rh_threads.specs.Crew.{CanWork, HaveWorked}
use Rattle.rh_threads.specs.declared.crew.Crew.{Crew}

-- ---- the words of a table once its rows are wiped

module _ (z : Shape) (words : List ℕ) (sized : length words ≡ word_count z) where
  abbrev counter : ℕ
  counter = word_at z words part.Counter

  abbrev rest : List ℕ
  rest = replicate (row_total z) 0 ++ counter ∷ []

  abbrev then : List ℕ
  then = take (cell_count z) words ++ rest

  front_long : length (take (cell_count z) words) ≡ cell_count z
  front_long = length-take-le (cell_count z) words (omega (arith, sized))

  rest_long : length rest ≡ row_total z + 1
  rest_long = length-append (replicate (row_total z) 0) (counter ∷ []) ∙ ap (λ (n : ℕ). n + 1) (length-replicate (row_total z) 0)

  behind : (i : ℕ) → slice_index then (cell_count z + i) ≡ slice_index rest i
  behind i = ap (λ (n : ℕ). slice_index then (n + i)) (sym front_long) ∙ get_or-append-add (take (cell_count z) words) rest i 0

  pub wiped_words : (next : List ℕ) × IsWiped z words next
  wiped_words = (
    then,
    record {
      size = length-append (take (cell_count z) words) rest ∙ (let f = front_long in let r = rest_long in omega (arith, f, r, sized));
      cells = λ c less. get_or_append_left (take (cell_count z) words) rest 0 c (let f = front_long in omega (arith, f, less)) ∙ get_or-take (cell_count z) words c 0 less;
      rows = λ i less. behind i ∙ get_or_append_left (replicate (row_total z) 0) (counter ∷ []) 0 i (let l = length-replicate {A = ℕ} (row_total z) 0 in omega (arith, l, less)) ∙ get_or-replicate (row_total z) i 0 0 less;
      counter = behind (row_total z) ∙ ap (λ (n : ℕ). slice_index rest n) (sym (length-replicate (row_total z) 0)) ∙ get_or-append_seam (replicate (row_total z) 0) counter [] 0;
    },
  )

-- ---- a round

-- what there is for each number below n, as a function
choose : {A : Type 0} (P : ℕ → A → Type 0) (other : A) (n : ℕ) → ((v : ℕ) → v < n → (a : A) × P v a) → (f : ℕ → A) × ((v : ℕ) → v < n → P v (f v))
choose P other zero each = ((λ v. other), (λ v less. absurd (omega (arith, less))))
choose P other (suc n) each =
    let rest = choose P other n (λ v less. each v (omega (arith, less))) in
    let last = each n (omega arith) in (
      updated rest.0 n last.0,
      (λ v less. ⊎_elim
          (λ (is : v ≡ n). subst (P v) (sym (updated_here rest.0 n v last.0 is)) (subst (λ (u : ℕ). P u last.0) (sym is) last.1))
          (λ (other_one : v ≢ n). subst (P v) (sym (updated_else rest.0 n v last.0 other_one)) (rest.1 v (omega (arith, less, other_one))))
          (same_nat v n)),
    )

-- what the worker of this number answered, and its hand
pub record AnsweredBy (ph : Setting) (keep : ℕ → View) (hs : List Hand) (v : ℕ) (answers : List KeyAnswer) : Type 0 where
  pub hand : Hand
  pub at : get_elem? hs v ≡ some hand
  pub kind_is : hand.kind ≡ ph.kind
  pub long : length hand.found.items ≡ ph.positions
  pub answered : Answered ph.shape hand (keep v) answers

-- the run at the end of a round
pub record Gathered (ph : Setting) (words : List ℕ) (keep : ℕ → View) (hs : List Hand) : Type 0 where
  pub answers : ℕ → List KeyAnswer
  pub run : RunInvariant (run_of ph words keep (λ v. keys_done ph.keys (answers v)) (λ v. without_positions (answers v)))
  pub each : (v : ℕ) → v < ph.shape.workers → AnsweredBy ph keep hs v (answers v)

module _ (ph : Setting) (vs : List Sitter) (hs : List Hand) (spans : Spans vs 0 ph.shape.workers) (long : length hs ≡ ph.shape.workers) (comes : Comes ph vs hs) (m : AreMade ph.shape vs) where
  abbrev past : ℕ → Past
  past = past_of ph.positions comes.run

  -- what stands for a worker, by its number
  record StandsAt (v : ℕ) (answers : List KeyAnswer) : Type 0 where
    hand : Hand
    at : get_elem? hs v ≡ some hand
    stands : HandStands ph.shape ph.keys (past v) hand (m.keep v)
    same : stands.answers ≡ answers

  stands_at : (v : ℕ) → v < ph.shape.workers → (answers : List KeyAnswer) × StandsAt v answers
  stands_at v less =
      let s = item_at vs v (let l = spans.long in omega (arith, l, less)) in
      let h = item_at hs v (omega (arith, long, less)) in
      let whose : s.0.view.worker ≡ v = spans.each v s.0 s.1 ∙ zero-add v in
      let st : HandStands ph.shape ph.keys (past v) h.0 (m.keep v) = subst (λ (x : View). HandStands ph.shape ph.keys (past v) h.0 x) (sym (m.of_view v s.0 s.1))
      (subst (λ (w : ℕ). HandStands ph.shape ph.keys (past w) h.0 s.0.view) whose (comes.stands v s.0 h.0 s.1 h.1)) in
      (st.answers, record { hand = h.0; at = h.1; stands = st; same = refl })

  chosen : (f : ℕ → List KeyAnswer) × ((v : ℕ) → v < ph.shape.workers → StandsAt v (f v))
  chosen = choose StandsAt [] ph.shape.workers stands_at

  doing_at : (v : ℕ) (answers : List KeyAnswer) → StandsAt v answers → ProgressInvariant ph.shape ph.kind (progress_by ph.keys (past v) (m.keep v) answers)
  doing_at v answers is =
      subst (λ (l : List KeyAnswer). ProgressInvariant ph.shape ph.kind (progress_by ph.keys (past v) (m.keep v) l)) is.same
      (subst (λ (k : Kind). ProgressInvariant ph.shape k (progress_by ph.keys (past v) (m.keep v) is.stands.answers)) is.stands.kind_is is.stands.doing)

  pub gathered : Gathered ph m.words m.keep hs
  gathered = record {
    answers = chosen.0;
    run = run_gathers (run_of ph comes.words comes.keep comes.done comes.answers) comes.run m.words m.keep (λ v. keys_done ph.keys (chosen.0 v)) (λ v. without_positions (chosen.0 v)) m.w 0 m.core ph.shape.some_worker
        (chosen.1 0 ph.shape.some_worker).stands.opening (λ v less. doing_at v (chosen.0 v) (chosen.1 v less));
    each = λ v less. let is = chosen.1 v less in record {
      hand = is.hand;
      at = is.at;
      kind_is = is.stands.kind_is;
      long = is.stands.long;
      answered = subst (λ (l : List KeyAnswer). Answered ph.shape is.hand (m.keep v) l) is.same is.stands.answered;
    };
  }

  -- the next round begins where they are
  pub comes_on : (us : List Sitter) → us ≡ all_views (round_view m.cells) vs → Comes ph us hs
  comes_on us is = record {
    words = then;
    keep = λ v. round_view m.cells (m.keep v);
    done = λ v. keys_done ph.keys (gathered.answers v);
    answers = λ v. without_positions (gathered.answers v);
    run = run;
    stands = λ r s h e f.
        let old = of_map (λ k. sitter (round_view m.cells k.view) []) vs r s (subst (λ (l : List Sitter). get_elem? l r ≡ some s) is e) in
        let less : r < ph.shape.workers = let l = there hs r h f in omega (arith, l, long) in
        let by = gathered.each r less in
        let same : by.hand ≡ h = some-injective by.hand h (sym by.at ∙ f) in
        let whose : old.0.view.worker ≡ r = spans.each r old.0 old.1 ∙ zero-add r in
        let view : m.keep r ≡ old.0.view = m.of_view r old.0 old.1 in
        subst (λ (k : Sitter). HandStands ph.shape ph.keys (past_of ph.positions run k.view.worker) h k.view) (sym old.2)
        (subst (λ (x : View). HandStands ph.shape ph.keys (past_of ph.positions run x.worker) h (round_view m.cells x)) view
        (subst (λ (w : ℕ). HandStands ph.shape ph.keys (past_of ph.positions run w) h (round_view m.cells (m.keep r))) (sym (ap (λ (x : View). x.worker) view ∙ whose))
        (subst (λ (g : Hand). HandStands ph.shape ph.keys (past_of ph.positions run r) g (round_view m.cells (m.keep r))) same (record {
          kind_is = by.kind_is;
          answers = gathered.answers r;
          doing = subst (λ (k : Kind). ProgressInvariant ph.shape k (progress_by ph.keys (past_of ph.positions run r) (round_view m.cells (m.keep r)) (gathered.answers r))) (sym by.kind_is) (run.doing r less);
          answered = record { claimed_are = by.answered.claimed_are; done_are = by.answered.done_are; counts = by.answered.counts; marks = by.answered.marks };
          opening = refl;
          long = by.long;
        }))));
  }
    where
      wiped : (then : List ℕ) × IsWiped ph.shape m.words then
      wiped = wiped_words ph.shape m.words m.core.represents.sized

      then : List ℕ
      then = wiped.0

      run : RunInvariant (run_of ph then (λ v. round_view m.cells (m.keep v)) (λ v. keys_done ph.keys (gathered.answers v)) (λ v. without_positions (gathered.answers v)))
      run = run_rounds (run_of ph m.words m.keep (λ v. keys_done ph.keys (gathered.answers v)) (λ v. without_positions (gathered.answers v))) then m.cells m.rest m.front wiped.1 gathered.run

-- ---- one round after the other

pub all_at : (t : Table) (s : Seat) → HasAll t s → SitsAt t s
all_at t s all = record { own = all.own; within = let f = all.first in let c = all.count in omega (arith, f, c) }

pub all_spans : (t : Table) (s : Seat) → HasAll t s → Spans (views_of s) 0 t.shape.workers
all_spans t s all = subst (λ (first : ℕ). Spans (views_of s) first t.shape.workers) all.first (subst (Spans (views_of s) s.side.worker) all.count s.spans)

module _ (t : Table) (keys : List ℕ) (c then : Crew) (all : HasAll t c.seat) (worked : HaveWorked t keys c then) where
  pub worked_all : HasAll t then.seat
  worked_all = record { own = worked.crew.here.own; first = worked.first ∙ all.first; count = worked.count ∙ all.count }

  pub worked_comes : (ph : Setting) → Comes (at_table t keys ph) (views_of c.seat) c.hands → Comes (at_table t keys ph) (views_of then.seat) then.hands
  worked_comes ph was = record { words = was.words; keep = was.keep; done = was.done; answers = was.answers; run = was.run; stands = worked.stands (past_of ph.positions was.run) was.stands }

  -- ---- and their table was wiped

  module _ (seat : Seat) (again : HasAll t seat) (wiped : AreWiped t.shape (views_of then.seat) (views_of seat)) (fresh : InView IsFresh (views_of seat)) where
    each : (P Q : View → Hand → Type 0) → ((v : View) (h : Hand) → P v h → Q (round_view wiped.made.cells v) h) → InPairs P (views_of then.seat) then.hands → InPairs Q (views_of seat) then.hands
    each P Q on was r s h e f =
        let old = of_map (λ k. sitter (round_view wiped.made.cells k.view) []) (views_of then.seat) r s (subst (λ (l : List Sitter). get_elem? l r ≡ some s) wiped.views e) in
        subst (λ (k : Sitter). Q k.view h) (sym old.2) (on old.0.view h (was r old.0 h old.1 f))

    pub wiped_can : CanWork t keys (record { seat = seat; hands = then.hands })
    wiped_can = record {
      crew = record {
        here = all_at t seat again;
        long = worked.crew.long ∙ worked_all.count ∙ sym again.count;
        hands = each (λ v h. IsHand t.shape keys h v) (λ v h. IsHand t.shape keys h v)
            (λ v h is. record { room = is.room; within = is.within; claims = record { below = is.claims.below; ended = is.claims.ended } }) worked.crew.hands;
        list = worked.crew.list;
        keys_are = worked.crew.keys_are;
      };
      fresh = fresh;
    }

    pub wiped_comes : (ph : Setting) → Comes (at_table t keys ph) (views_of c.seat) c.hands → Comes (at_table t keys ph) (views_of seat) then.hands
    wiped_comes ph was = comes_on (at_table t keys ph) (views_of then.seat) then.hands (all_spans t then.seat worked_all) (worked.crew.long ∙ worked_all.count)
        (worked_comes ph was) wiped.made (views_of seat) wiped.views
