-- What a worker knows only grows: in each step its facts and its reads stay.
use Rattle.std.proofs.Common.{◌≡◌, ℕ, zero, suc, inr, refl, sym, ap, ◌∙◌, subst, arith, map, filter, eqb, Bool, true, cond, ◌&&◌, List, ◌∷◌}
use Rattle.std.specs.Prelude.{nat_lt}
use Rattle.std.specs.List.{Contains}
use Rattle.std.proofs.lemmas.Bool.Decides.{nat_tests}
use Rattle.rh_world.specs.World.{Cell, In, Ref, is_ref}
use Rattle.rh_world.specs.World.Cell.{desc, mark, plain}
use Rattle.rh_world.specs.Facts.{Fact}
use Rattle.rh_world.specs.Facts.Fact.{found, installed, met, mismatch}
use Rattle.rh_world.specs.Sides.{KeptRead, Side, close_side, is_number, note_side, open_side, paid_side, read_side, release_side, settle_side}
use Rattle.rh_world.specs.Moves.{Entries, cell_noted, covers, note_entries, place_noted, placed_noted, release_noted, settle_noted}
use Rattle.rh_words.specs.declared.reference.Reading.TheVariants as reading
use Rattle.rh_words.specs.declared.shape.Shape.{Shape}
use Rattle.rh_words.specs.Parts.{cell_count}
use Rattle.rh_words.specs.View.{View}
use Rattle.rh_words.specs.Words.{cell_in, mark_number}
use Rattle.rh_words.specs.Steps.{Step, decided_word, entries_of, is_none, next_entries, noted, own_desc, own_mark, read_noted, size_in}
use Rattle.rh_rule.proofs.OpensKept.{entries_notes}
use Rattle.rh_rule.proofs.Said.{plain_said}
use Rattle.rh_acts.specs.Done.{Kept, kept}
use Rattle.rh_order.specs.History.{value_of, kept_of}
use Rattle.rh_order.proofs.Filtered.{from_filtered, in_filtered}
use Rattle.rh_order.proofs.Noting.{Follows, a_control_word, a_reading, either}
use Rattle.rh_order.specs.OwnActs.{PlainReadsComeFirst, ReadsAreKept, ReadsStay}

-- t knows what s knows
pub record Learns (s t : Side) : Type 0 where
  pub facts : (n : Fact) → In n s.facts → In n t.facts
  pub reads : (r : KeptRead) → In r s.reads → In r t.reads

-- and has the same descriptor open
pub record Grows (s t : Side) : Type 0 where
  pub learns : Learns s t
  pub current : t.current ≡ s.current

grows : Follows Grows
grows = record {
  same = λ s. record { learns = record { facts = λ n i. i; reads = λ r i. i }; current = refl };
  further = λ s t r g h. record {
    learns = record { facts = λ n i. h.learns.facts n (g.learns.facts n i); reads = λ k i. h.learns.reads k (g.learns.reads k i) };
    current = h.current ∙ g.current;
  };
  note = λ s n. record { learns = record { facts = λ m i. inr i; reads = λ r i. i }; current = refl };
  read = λ s c u acts next. record { learns = record { facts = λ n i. i; reads = λ r i. inr i }; current = refl };
  forget = λ s d. record { learns = record { facts = λ n i. i; reads = λ r i. i }; current = refl };
}

-- ---- what is noted

a_place : (s : Side) (x d : Ref) (e c old : ℕ) (k : Cell) → Grows s (place_noted s x d e c old k 0)
a_place s x d e c old (plain u) = either (Grows s) (eqb u old) (placed_noted s x d e c) (note_side s (mismatch d e 0))
    record { learns = record { facts = λ n i. inr (inr (inr i)); reads = λ r i. i }; current = refl } (grows.note s (mismatch d e 0))
a_place s x d e c old (mark y) = grows.note s (found y c)
a_place s x d e c old (desc f) = either (Grows s) (is_ref f d) (note_side s (installed d e)) (note_side s (met f)) (grows.note s (installed d e)) (grows.note s (met f))

a_settle : (s : Side) (d : Ref) (e c : ℕ) (promoted : Bool) → Grows s (settle_noted s d e c promoted)
a_settle s d e c promoted = either (Grows s) promoted (note_side (settle_side s d c) (installed d e)) (settle_side s d c)
    record { learns = record { facts = λ n i. inr i; reads = λ r i. i }; current = refl }
    record { learns = record { facts = λ n i. i; reads = λ r i. i }; current = refl }

a_release : (s : Side) (d : Ref) (e c n : ℕ) (own : Bool) → Learns s (cond own (release_noted (paid_side s d c) e n) (paid_side s d c))
a_release s d e c n own =
    let same : Learns s s = (grows.same s).learns in
    let r = release_side (paid_side s d c) e in
    either (Learns s) own (release_noted (paid_side s d c) e n) (paid_side s d c)
    (either (Learns s) (covers n (e ∷ s.released)) (close_side r) r record { facts = same.facts; reads = same.reads } record { facts = same.facts; reads = same.reads })
    record { facts = same.facts; reads = same.reads }

entries_reads : (s : Side) (d : Ref) (p : Entries) (n : ℕ) → (note_entries s d p n).reads ≡ s.reads
entries_reads s d p zero = refl
entries_reads s d p (suc n) = entries_reads s d p n

-- ---- steps

-- a step that opens and closes nothing
abbrev pub KeepsCurrent : Step → Type 0
KeepsCurrent (Step.opens size) = ⊥
KeepsCurrent (Step.releases d e c k value) = ⊥
KeepsCurrent _ = Unit {0}

pub steps_grow : (z : Shape) (v : View) (s : Step) (word : ℕ) → KeepsCurrent s → Grows v.side (noted z v s word).side
steps_grow z v (Step.writes p u) word h = grows.same v.side
steps_grow z v (Step.opens size) word h = absurd h
steps_grow z v (Step.reads r) word h = a_reading Grows grows v r word
steps_grow z v (Step.places d e c old) word h = a_place v.side (own_mark v) d e c old (cell_in word)
steps_grow z v (Step.settles x c d e old) word h =
    let promoted = is_none old && eqb word (mark_number x) in
    either (Grows v.side) (is_number v.side.unsettled v.worker x) (settle_noted v.side d e c promoted) v.side (a_settle v.side d e c promoted) (grows.same v.side)
steps_grow z v (Step.decides d k) word h = a_control_word Grows grows v.side d (decided_word d k word)
steps_grow z v (Step.releases d e c k value) word h = absurd h
steps_grow z v Step.claims word h = record { learns = record { facts = λ n i. i; reads = λ r i. i }; current = refl }

pub steps_learn : (z : Shape) (v : View) (s : Step) (word : ℕ) → Learns v.side (noted z v s word).side
steps_learn z v (Step.writes p u) word = (steps_grow z v (Step.writes p u) word tt).learns
steps_learn z v (Step.opens size) word =
    let d = own_desc v in
    let p = entries_of (next_entries v size) in
    record {
      facts = entries_notes (open_side v.side v.next_number) d p size;
      reads = λ r i. subst (λ (rs : List KeptRead). In r rs) (sym (entries_reads (open_side v.side v.next_number) d p size)) i;
    }
steps_learn z v (Step.reads r) word = (steps_grow z v (Step.reads r) word tt).learns
steps_learn z v (Step.places d e c old) word = (steps_grow z v (Step.places d e c old) word tt).learns
steps_learn z v (Step.settles x c d e old) word = (steps_grow z v (Step.settles x c d e old) word tt).learns
steps_learn z v (Step.decides d k) word = (steps_grow z v (Step.decides d k) word tt).learns
steps_learn z v (Step.releases d e c k value) word = a_release v.side d e c (size_in v.opened d.number) (is_number v.side.current v.worker d)
steps_learn z v Step.claims word = (steps_grow z v Step.claims word tt).learns

-- ---- reads of the cells of a table

abbrev of_table : Shape → KeptRead → Bool
of_table z r = nat_lt r.cell (cell_count z)

abbrev valued : KeptRead → Kept
valued r = kept r.cell (value_of r.word)

pub reads_are_kept : ReadsAreKept
reads_are_kept z v r i inside = in_filtered (of_table z) valued v.side.reads r i (grind (arith, nat_tests))

pub plain_reads_come_first : PlainReadsComeFirst
plain_reads_come_first z v c word closed inside plain_word =
    let read : KeptRead = record { cell = c; word = word; acts = 0; next_number = v.next_number } in
    let is : read_noted v (reading.Cell c) word ≡ read_side v.side c word 0 v.next_number =
    λ i. cell_noted v.side c (plain_said word plain_word i) (closed i) 0 v.next_number in
    let within : nat_lt c (cell_count z) ≡ true = grind (arith, nat_tests) in
    ap (λ (s : Side). map valued (filter (of_table z) s.reads)) is
    ∙ ap (λ (b : Bool). map valued (cond b (read ∷ filter (of_table z) v.side.reads) (filter (of_table z) v.side.reads))) within

pub reads_stay : ReadsStay
reads_stay z v s word = (
  (steps_learn z v s word).reads,
  λ k h.
      let it = from_filtered (of_table z) valued v.side.reads k h in
      subst (Contains (kept_of z (noted z v s word))) it.3 (in_filtered (of_table z) valued (noted z v s word).side.reads it.0 ((steps_learn z v s word).reads it.0 it.1) it.2),
)
