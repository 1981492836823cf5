-- The acts that a worker has finished, from step to step.
use Rattle.std.proofs.Common.{◌≡◌, ◌≢◌, ℕ, suc, ◌<◌, inl, inr, ⊎_elim, refl, sym, ap, ◌∙◌, subst, arith, eq-eqb, ne_eqb, Bool, true, false, cond, not, ◌&&◌, List, [], ◌∷◌, ◌++◌, map, filter, reverse, Option, Some, None}
use mathlib.Core.List.{reverse-cons}
use Rattle.rh_world.specs.World.{Control, In, IsFalling, Ref}
use Rattle.rh_world.specs.World.Control.{succeeded, undecided}
use Rattle.rh_world.specs.Facts.Fact.{decided}
use Rattle.rh_world.specs.Sides.{Side, close_side, is_number, open_side, paid_side, release_side}
use Rattle.rh_world.specs.Moves.{covers, release_noted}
use Rattle.rh_world.proofs.Tests.{is_number_yes}
use Rattle.rh_world.proofs.Updated.{ref_path, some_injective, some_not_none}
use Rattle.rh_words.specs.declared.shape.Shape.{Shape}
use Rattle.rh_words.specs.View.{OwnDesc, Raw, RawRow, View, Written, own_ref}
use Rattle.rh_words.specs.Words.{control_word_of}
use Rattle.rh_words.specs.Steps.{CanOpenNext, KnowsValue, Step, entries_of, next_entries, noted, own_desc, size_in, with_side}
use Rattle.rh_rule.specs.Represents.{numbers_of}
use Rattle.rh_rule.specs.Rest.{is_noted_success}
use Rattle.rh_rule.proofs.OpensKept.{entries_current}
use Rattle.rh_rule.proofs.Telling.{OneResult, in_noted, noted_no, noted_same, same_filtered}
use Rattle.rh_acts.specs.Act.{Act}
use Rattle.rh_order.specs.History.{act_of, is_current, is_finished, own_acts_of}
use Rattle.rh_order.specs.OwnActs.{Orderly, StepFinishes, StepsFinish}
use Rattle.rh_order.proofs.Learning.{KeepsCurrent, Learns, steps_grow, steps_learn}

-- ---- what is finished

open_yes : (q : Option ℕ) (n : ℕ) → q ≡ Some n → is_current q n ≡ true
open_yes q n e = ap (λ (x : Option ℕ). is_current x n) e ∙ eq-eqb n n refl

pub open_no : (q : Option ℕ) (p n : ℕ) → q ≡ Some p → p ≢ n → is_current q n ≡ false
open_no q p n e ne = ap (λ (x : Option ℕ). is_current x n) e ∙ ne_eqb p n ne

pub none_open : (q : Option ℕ) (n : ℕ) → q ≡ None → is_current q n ≡ false
none_open q n e = ap (λ (x : Option ℕ). is_current x n) e

pub while_open : (v : View) (o : OwnDesc) → v.side.current ≡ Some o.number → is_finished v o ≡ false
while_open v o e = ap (λ b. not b && is_noted_success v.side.facts (own_ref v o.number)) (open_yes v.side.current o.number e)

pub once_closed : (v : View) (o : OwnDesc) → is_current v.side.current o.number ≡ false → is_finished v o ≡ is_noted_success v.side.facts (own_ref v o.number)
once_closed v o e = ap (λ b. not b && is_noted_success v.side.facts (own_ref v o.number)) e

abbrev acts_by : List OwnDesc → List Act
acts_by os = reverse (map (λ o. act_of o.entries) os)

pub in_numbers : (os : List OwnDesc) (o : OwnDesc) → In o os → In o.number (numbers_of os)
in_numbers [] o i = absurd i
in_numbers (x ∷ os) o i = ⊎_elim (λ (e : o ≡ x). inl (ap (λ (y : OwnDesc). y.number) e)) (λ j. inr (in_numbers os o j)) i

-- ---- three kinds of step

module _ (v : View) (t : Side) (learns : Learns v.side t) (one : OneResult t.facts) (tidy : Orderly v) where
  -- what is closed stays as it was
  closed_same : (u : View) → u.side.facts ≡ t.facts → u.worker ≡ v.worker → (o : OwnDesc) → In o v.opened → (v.side.current ≡ Some o.number → ⊥)
      → is_current v.side.current o.number ≡ false → is_current u.side.current o.number ≡ false → is_finished u o ≡ is_finished v o
  closed_same u facts own o i closed before after =
      let k = ⊎_elim (λ q. absurd (closed q)) (λ q. q) (tidy.over o i) in
      once_closed u o after
      ∙ (λ j. is_noted_success (facts j) record { worker = own j; number = o.number })
      ∙ noted_same v.side.facts t.facts (own_ref v o.number) k.0 learns.facts one k.1
      ∙ sym (once_closed v o before)

  -- nothing is opened or closed
  module _ (control marks : ℕ) (written : List Written) (rows : List RawRow) (raw : List Raw) where
    abbrev next : View
    next = record v { side = t; control = control; marks_used = marks; written = written; raw_rows = rows; raw = raw }

    as_before : t.current ≡ v.side.current → StepFinishes v next
    as_before same = record {
      orderly = record {
        falling = tidy.falling;
        below = tidy.below;
        newest = λ p e. tidy.newest p (sym same ∙ e);
        over = λ o i. ⊎_elim (λ q. inl (same ∙ q)) (λ q. inr (q.0, learns.facts (decided (own_ref v o.number) q.0) q.1)) (tidy.over o i);
      };
      stays = λ still. ap acts_by (same_filtered (is_finished next) (is_finished v) v.opened (λ o i. ⊎_elim
          (λ q. while_open next o (same ∙ q) ∙ sym (while_open v o q))
          (λ q.
          ap (λ (x : Option ℕ). not (is_current x o.number) && is_noted_success t.facts (own_ref v o.number)) same
          ∙ ap (λ b. not (is_current v.side.current o.number) && b) (noted_same v.side.facts t.facts (own_ref v o.number) q.0 learns.facts one q.1))
          (tidy.over o i)));
      succeeds = λ o c i. absurd (some_not_none o.number (sym c.current ∙ sym same ∙ c.closed));
      fails = λ o k c i f. absurd (some_not_none o.number (sym c.current ∙ sym same ∙ c.closed));
    }

    -- the open descriptor, which is decided, is closed
    module _ (p : ℕ) (k : Control) (current : v.side.current ≡ Some p) (noted_so : In (decided (own_ref v p) k) v.side.facts) (closed : t.current ≡ None) where
      head : (o : OwnDesc) × (earlier : List OwnDesc) × (v.opened ≡ o ∷ earlier) × (o.number ≡ p)
      head = tidy.newest p current

      abbrev last : OwnDesc
      last = head.0

      falls : IsFalling (numbers_of (last ∷ head.1))
      falls = subst (λ (os : List OwnDesc). IsFalling (numbers_of os)) head.2 tidy.falling

      -- the closed one is the last, and the earlier ones are finished if they were
      is_last : (o : OwnDesc) → In o v.opened → v.side.current ≡ Some o.number → o ≡ last
      is_last o i e = ⊎_elim (λ q. q)
          (λ j.
          let n : p ≡ o.number = some_injective p o.number (sym current ∙ e) in
          let l : o.number < last.number = falls.0 o.number (in_numbers head.1 o j) in
          let h : last.number ≡ p = head.3 in
          absurd (omega arith))
          (subst (In o) head.2 i)

      earlier_same : (o : OwnDesc) → In o head.1 → is_finished next o ≡ is_finished v o
      earlier_same o j =
          let l : o.number < last.number = falls.0 o.number (in_numbers head.1 o j) in
          let h : last.number ≡ p = head.3 in
          let ne : p ≢ o.number = λ q. omega arith in
          closed_same next refl refl o (subst (In o) (sym head.2) (inr j)) (λ e. ne (some_injective p o.number (sym current ∙ e))) (open_no v.side.current p o.number current ne) (none_open t.current o.number closed)

      -- so all depends on the last one
      finished_next : (b : Bool) → is_noted_success t.facts (own_ref v last.number) ≡ b
          → filter (is_finished next) v.opened ≡ cond b (last ∷ filter (is_finished v) v.opened) (filter (is_finished v) v.opened)
      finished_next b is =
          let before : filter (is_finished v) v.opened ≡ filter (is_finished v) head.1 =
          ap (filter (is_finished v)) head.2 ∙ ap (λ c. cond c (last ∷ filter (is_finished v) head.1) (filter (is_finished v) head.1)) (while_open v last (current ∙ ap (λ (n : ℕ). Some n) (sym head.3))) in
          ap (filter (is_finished next)) head.2
          ∙ ap (λ c. cond c (last ∷ filter (is_finished next) head.1) (filter (is_finished next) head.1)) (once_closed next last (none_open t.current last.number closed) ∙ is)
          ∙ ap (λ (os : List OwnDesc). cond b (last ∷ os) os) (same_filtered (is_finished next) (is_finished v) head.1 earlier_same ∙ sym before)

      as_closed : StepFinishes v next
      as_closed = record {
        orderly = record {
          falling = tidy.falling;
          below = tidy.below;
          newest = λ n e. absurd (some_not_none n (sym e ∙ closed));
          over = λ o i. inr (⊎_elim
              (λ q. (k, learns.facts (decided (own_ref v o.number) k) (subst (λ (n : ℕ). In (decided (own_ref v n) k) v.side.facts) (some_injective p o.number (sym current ∙ q)) noted_so)))
              (λ q. (q.0, learns.facts (decided (own_ref v o.number) q.0) q.1)) (tidy.over o i));
        };
        stays = λ still. absurd (some_not_none p (sym (still p current) ∙ closed));
        succeeds = λ o c i.
            let is : o ≡ last = is_last o c.opened c.current in
            ap acts_by (finished_next true (in_noted t.facts (own_ref v last.number) (learns.facts (decided (own_ref v last.number) succeeded) (subst (λ (x : OwnDesc). In (decided (own_ref v x.number) succeeded) v.side.facts) is i))))
            ∙ reverse-cons (act_of last.entries) (map (λ (x : OwnDesc). act_of x.entries) (filter (is_finished v) v.opened))
            ∙ ap (λ (x : OwnDesc). own_acts_of v ++ act_of x.entries ∷ []) (sym is);
        fails = λ o r c i failed.
            let is : o ≡ last = is_last o c.opened c.current in
            ap acts_by (finished_next false (noted_no t.facts (own_ref v last.number) r one (learns.facts (decided (own_ref v last.number) r) (subst (λ (x : OwnDesc). In (decided (own_ref v x.number) r) v.side.facts) is i)) failed));
      }

  -- the next descriptor is opened
  module _ (o : OwnDesc) (control : ℕ) (is : o.number ≡ v.next_number) (closed : v.side.current ≡ None) (current : t.current ≡ Some v.next_number) where
    abbrev opened : View
    opened = record v { side = t; next_number = suc v.next_number; control = control; opened = o ∷ v.opened }

    as_opened : StepFinishes v opened
    as_opened = record {
      orderly = record {
        falling = (λ m i. rw is (tidy.below m i), tidy.falling);
        below = λ m i. ⊎_elim (λ (e : m ≡ o.number). omega arith) (λ j. let l = tidy.below m j in omega arith) i;
        newest = λ p e. (o, v.opened, refl, is ∙ some_injective v.next_number p (sym current ∙ e));
        over = λ x i. ⊎_elim (λ (e : x ≡ o). inl (current ∙ ap (λ (n : ℕ). Some n) (sym is) ∙ ap (λ (y : OwnDesc). Some y.number) (sym e)))
            (λ j. inr (⊎_elim (λ q. absurd (some_not_none x.number (sym q ∙ closed))) (λ q. (q.0, learns.facts (decided (own_ref v x.number) q.0) q.1)) (tidy.over x j))) i;
      };
      stays = λ still.
          ap (λ b. acts_by (cond b (o ∷ filter (is_finished opened) v.opened) (filter (is_finished opened) v.opened))) (while_open opened o (current ∙ ap (λ (n : ℕ). Some n) (sym is)))
          ∙ ap acts_by (same_filtered (is_finished opened) (is_finished v) v.opened (λ x i.
          let l : x.number < v.next_number = tidy.below x.number (in_numbers v.opened x i) in
          closed_same opened refl refl x i (λ e. some_not_none x.number (sym e ∙ closed)) (none_open v.side.current x.number closed) (open_no t.current v.next_number x.number current (λ q. omega arith))));
      succeeds = λ x c i. absurd (some_not_none x.number (sym c.current ∙ closed));
      fails = λ x k c i f. absurd (some_not_none x.number (sym c.current ∙ closed));
    }

-- ---- the steps

kept_open : (z : Shape) (v : View) (s : Step) (word : ℕ) → KeepsCurrent s → OneResult (noted z v s word).side.facts → Orderly v
    → StepFinishes v (record v {
      side = (noted z v s word).side;
      control = (noted z v s word).control;
      marks_used = (noted z v s word).marks_used;
      written = (noted z v s word).written;
      raw_rows = (noted z v s word).raw_rows;
      raw = (noted z v s word).raw;
    })
kept_open z v s word h one tidy =
    let g = steps_grow z v s word h in
    let k = noted z v s word in
    as_before v k.side g.learns one tidy k.control k.marks_used k.written k.raw_rows k.raw g.current

opens_next : (z : Shape) (v : View) (size word : ℕ) → CanOpenNext z v size → OneResult (noted z v (Step.opens size) word).side.facts → Orderly v
    → StepFinishes v (noted z v (Step.opens size) word)
opens_next z v size word can one tidy =
    as_opened v (noted z v (Step.opens size) word).side (steps_learn z v (Step.opens size) word) one tidy
    record { number = v.next_number; entries = next_entries v size } (control_word_of v.next_number undecided) refl can.closed
    (entries_current (open_side v.side v.next_number) (own_desc v) (entries_of (next_entries v size)) size)

module _ (v : View) (d : Ref) (e c : ℕ) (tidy : Orderly v) where
  abbrev paid : Side
  paid = paid_side v.side d c

  abbrev fewer : Side
  fewer = release_side paid e

  same : (t : Side) → t.facts ≡ v.side.facts → t.reads ≡ v.side.reads → Learns v.side t
  same t facts reads = record { facts = λ n i. rw facts i; reads = λ r i. rw reads i }

  -- where all entries are released the descriptor is closed
  releases_own : (k : Control) → In (decided d k) v.side.facts → d.worker ≡ v.worker → v.side.current ≡ Some d.number → (all : Bool)
      → OneResult (cond all (close_side fewer) fewer).facts → StepFinishes v (with_side v (cond all (close_side fewer) fewer))
  releases_own k noted_so own current true one =
      as_closed v (close_side fewer) (same (close_side fewer) refl refl) one tidy v.control v.marks_used v.written v.raw_rows v.raw d.number k current
      (subst (λ (x : Ref). In (decided x k) v.side.facts) (ref_path d (own_ref v d.number) own refl) noted_so) refl
  releases_own k noted_so own current false one = as_before v fewer (same fewer refl refl) one tidy v.control v.marks_used v.written v.raw_rows v.raw refl

  -- the own open one is released only where it is noted how it was decided
  releases_open : (o : Option Control) (value : ℕ) → KnowsValue v d e o value → d.worker ≡ v.worker → v.side.current ≡ Some d.number → (all : Bool)
      → OneResult (cond all (close_side fewer) fewer).facts → StepFinishes v (with_side v (cond all (close_side fewer) fewer))
  releases_open None value knows own current all one = absurd (knows.3 own current)
  releases_open (Some k) value knows own current all one = releases_own k knows.0 own current all one

  releases_entry : (o : Option Control) (value n : ℕ) (own : Bool) → KnowsValue v d e o value → is_number v.side.current v.worker d ≡ own
      → OneResult (cond own (release_noted paid e n) paid).facts → StepFinishes v (with_side v (cond own (release_noted paid e n) paid))
  releases_entry o value n true knows is one =
      let at = is_number_yes v.side.current v.worker d is in releases_open o value knows at.0 at.1 (covers n (e ∷ v.side.released)) one
  releases_entry o value n false knows is one = as_before v paid (same paid refl refl) one tidy v.control v.marks_used v.written v.raw_rows v.raw refl

pub steps_finish : StepsFinish
steps_finish z v (Step.writes p u) word may sound tidy = kept_open z v (Step.writes p u) word tt sound.one_result tidy
steps_finish z v (Step.opens size) word may sound tidy = opens_next z v size word may.step sound.one_result tidy
steps_finish z v (Step.reads r) word may sound tidy = kept_open z v (Step.reads r) word tt sound.one_result tidy
steps_finish z v (Step.places d e c old) word may sound tidy = kept_open z v (Step.places d e c old) word tt sound.one_result tidy
steps_finish z v (Step.settles x c d e old) word may sound tidy = kept_open z v (Step.settles x c d e old) word tt sound.one_result tidy
steps_finish z v (Step.decides d k) word may sound tidy = kept_open z v (Step.decides d k) word tt sound.one_result tidy
steps_finish z v (Step.releases d e c k value) word may sound tidy = releases_entry v d e c tidy k value (size_in v.opened d.number) (is_number v.side.current v.worker d) may.step.knows_value refl sound.one_result
steps_finish z v Step.claims word may sound tidy = kept_open z v Step.claims word tt sound.one_result tidy
