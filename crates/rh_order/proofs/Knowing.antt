-- A worker goes on knowing what it holds, from step to step.
use Rattle.std.proofs.Common.{◌≡◌, ℕ, zero, suc, inl, inr, ⊎_elim, refl, sym, ap, ◌∙◌, subst, eqb, Bool, true, false, cond, not, ◌&&◌, List, [], ◌∷◌, filter, Option, None}
use Rattle.rh_world.specs.World.{Cell, In, Ref, is_ref}
use Rattle.rh_world.specs.World.Cell.{desc, mark, plain}
use Rattle.rh_world.specs.Facts.{Fact}
use Rattle.rh_world.specs.Facts.Fact.{desc_is, found, installed, met, mismatch}
use Rattle.rh_world.specs.Sides.{Debt, Side, close_side, is_number, note_side, open_side, paid_side, release_side}
use Rattle.rh_world.specs.Moves.{Entries, covers, note_entries, place_noted, placed_noted, release_noted, settle_noted}
use Rattle.rh_world.proofs.Tests.{is_number_yes}
use Rattle.rh_world.proofs.Updated.{ref_path, some_injective, some_not_none}
use Rattle.rh_words.specs.declared.shape.Shape.{Shape}
use Rattle.rh_words.specs.View.{View}
use Rattle.rh_words.specs.Words.{cell_in, mark_number}
use Rattle.rh_words.specs.Steps.{Allowed, CanPlace, CanSettle, Step, decided_word, entries_of, is_none, next_entries, noted, own_desc, own_mark, size_in}
use Rattle.rh_rule.specs.Sound.{Sound}
use Rattle.rh_order.proofs.Learning.{steps_learn}
use Rattle.rh_order.proofs.Noting.{Follows, a_control_word, a_reading, either}
use Rattle.rh_order.specs.Known.{KnowsHeld, NotesMark, NotesOld}

-- ---- steps that place and settle nothing of the worker's own

-- t holds what s holds, or less
record HoldsLess (s t : Side) : Type 0 where
  pub unsettled : t.unsettled ≡ s.unsettled
  pub debts : (q : Debt) → In q t.debts → In q s.debts

from_filter : (test : Debt → Bool) (q : Debt) (l : List Debt) → In q (filter test l) → In q l
from_filter test q [] i = i
from_filter test q (x ∷ l) i = go (test x) (from_filter test q l) i
  where
    go : (b : Bool) → (In q (filter test l) → In q l) → In q (cond b (x ∷ filter test l) (filter test l)) → In q (x ∷ l)
    go true later j = ⊎_elim inl (λ k. inr (later k)) j
    go false later j = inr (later j)

holds_less : Follows HoldsLess
holds_less = record {
  same = λ s. record { unsettled = refl; debts = λ q i. i };
  further = λ s t r g h. record { unsettled = h.unsettled ∙ g.unsettled; debts = λ q i. g.debts q (h.debts q i) };
  note = λ s n. record { unsettled = refl; debts = λ q i. i };
  read = λ s c u acts next. record { unsettled = refl; debts = λ q i. i };
  forget = λ s d. record { unsettled = refl; debts = λ q i. from_filter (λ p. not (is_ref p.desc d)) q s.debts i };
}

entries : (s : Side) (d : Ref) (p : Entries) (n : ℕ) → HoldsLess s (note_entries s d p n)
entries s d p zero = record { unsettled = refl; debts = λ q i. i }
entries s d p (suc n) = record { unsettled = (entries s d p n).unsettled; debts = (entries s d p n).debts }

a_release : (s : Side) (d : Ref) (e c n : ℕ) (own : Bool) → HoldsLess s (cond own (release_noted (paid_side s d c) e n) (paid_side s d c))
a_release s d e c n own =
    let less : (q : Debt) → In q (paid_side s d c).debts → In q s.debts = λ q i. from_filter (λ p. not (is_ref p.desc d && eqb p.cell c)) q s.debts i in
    let r = release_side (paid_side s d c) e in
    either (HoldsLess s) own (release_noted (paid_side s d c) e n) (paid_side s d c)
    (either (HoldsLess s) (covers n (e ∷ s.released)) (close_side r) r record { unsettled = refl; debts = less } record { unsettled = refl; debts = less })
    record { unsettled = refl; debts = less }

-- ---- what is known stays known

module _ (s t : Side) (more : (n : Fact) → In n s.facts → In n t.facts) where
  old_stays : (d : Ref) (c word : ℕ) → NotesOld s d c word → NotesOld t d c word
  old_stays d c word is =
      let work = is.1.work in
      (is.0, record { work = record { size = work.size; known = more _ work.known; within = work.within }; cell = more _ is.1.cell; old = more _ is.1.old })

  mark_stays : (x d : Ref) → NotesMark s x d → NotesMark t x d
  mark_stays x d is = record { cell = is.cell; word = is.word; names = more _ is.names; met = more _ is.met; old = old_stays d is.cell is.word is.old }

  module _ (who : ℕ) (knows : KnowsHeld s who) where
    debt_stays : (d : Ref) (c : ℕ) → In record { desc = d; cell = c } s.debts → (x : Ref) × In (found x c) t.facts × NotesMark t x d
    debt_stays d c i = let is = knows.debts d c i in (is.0, more _ is.1, mark_stays is.0 d is.2)

    knows_less : HoldsLess s t → KnowsHeld t who
    knows_less less = record {
      unsettled = λ n e. let is = knows.unsettled n (sym less.unsettled ∙ e) in (is.0, mark_stays record { worker = who; number = n } is.0 is.1);
      debts = λ d c i. debt_stays d c (less.debts record { desc = d; cell = c } i);
    }

-- ---- marks of its own

-- one is placed, or not
module _ (z : Shape) (v : View) (d : Ref) (e c old : ℕ) (can : CanPlace z v d e c old) (knows : KnowsHeld v.side v.worker) where
  placed : KnowsHeld (placed_noted v.side (own_mark v) d e c) v.worker
  placed =
      let t = placed_noted v.side (own_mark v) d e c in
      let more : (n : Fact) → In n v.side.facts → In n t.facts = λ n i. inr (inr (inr i)) in
      let is : NotesMark t (own_mark v) d = record {
        cell = c;
        word = old;
        names = inr (inr (inl refl));
        met = inl refl;
        old = old_stays v.side t more d c old (e, record { work = can.work; cell = can.knows_cell; old = can.knows_old });
      } in
      record {
        unsettled = λ n q. (d, subst (λ (m : ℕ). NotesMark t record { worker = v.worker; number = m } d) (some_injective v.marks_used n q) is);
        debts = debt_stays v.side t more v.worker knows;
      }

  noting : (n : Fact) → KnowsHeld (note_side v.side n) v.worker
  noting n = knows_less v.side (note_side v.side n) (λ m i. inr i) v.worker knows (holds_less.note v.side n)

  a_place : (k : Cell) → KnowsHeld (place_noted v.side (own_mark v) d e c old k 0) v.worker
  a_place (plain u) = either (λ t. KnowsHeld t v.worker) (eqb u old) (placed_noted v.side (own_mark v) d e c) (note_side v.side (mismatch d e 0)) placed (noting (mismatch d e 0))
  a_place (mark y) = noting (found y c)
  a_place (desc f) = either (λ t. KnowsHeld t v.worker) (is_ref f d) (note_side v.side (installed d e)) (note_side v.side (met f)) (noting (installed d e)) (noting (met f))

-- one is settled, and its cell is owed
module _ (z : Shape) (v : View) (x : Ref) (c : ℕ) (d : Ref) (e : ℕ) (old : Option ℕ) (can : CanSettle z v x c d e old) (knows : KnowsHeld v.side v.worker) where
  module _ (t : Side) (more : (n : Fact) → In n v.side.facts → In n t.facts) (one_desc : (f : Ref) → In (desc_is x f) t.facts → In (desc_is x d) t.facts → f ≡ d) (none : t.unsettled ≡ None) (debts : t.debts ≡ record { desc = d; cell = c } ∷ v.side.debts) where
    settled : is_number v.side.unsettled v.worker x ≡ true → KnowsHeld t v.worker
    settled own =
        let at = is_number_yes v.side.unsettled v.worker x own in
        let is = knows.unsettled x.number at.1 in
        let before : NotesMark v.side x is.0 = subst (λ (y : Ref). NotesMark v.side y is.0) (ref_path record { worker = v.worker; number = x.number } x (sym at.0) refl) is.1 in
        let now : NotesMark t x d = subst (NotesMark t x) (one_desc is.0 (more (desc_is x is.0) before.names) (more (desc_is x d) can.desc_is)) (mark_stays v.side t more x is.0 before) in
        record {
          unsettled = λ n q. absurd (some_not_none n (sym q ∙ none));
          debts = λ f b i. ⊎_elim
              (λ (q : record { desc = f; cell = b } ≡ record { desc = d; cell = c }). (
                x,
                subst (λ (a : ℕ). In (found x a) t.facts) (sym (ap (λ (o : Debt). o.cell) q)) (more (found x c) can.found),
                subst (NotesMark t x) (sym (ap (λ (o : Debt). o.desc) q)) now,
              ))
              (debt_stays v.side t more v.worker knows f b)
              (subst (λ (l : List Debt). In record { desc = f; cell = b } l) debts i);
        }

  abbrev swapped : Bool → Side
  swapped promoted = settle_noted v.side d e c promoted

  a_settle : (promoted own : Bool) → is_number v.side.unsettled v.worker x ≡ own
      → ((f : Ref) → In (desc_is x f) (cond own (swapped promoted) v.side).facts → In (desc_is x d) (cond own (swapped promoted) v.side).facts → f ≡ d)
      → KnowsHeld (cond own (swapped promoted) v.side) v.worker
  a_settle true true own one = settled (swapped true) (λ n i. inr i) one refl refl own
  a_settle false true own one = settled (swapped false) (λ n i. i) one refl refl own
  a_settle promoted false own one = knows

-- ---- the steps

pub knows_next : (z : Shape) (v : View) (s : Step) (word : ℕ) → Allowed z v s → Sound z (noted z v s word) → KnowsHeld v.side v.worker
    → KnowsHeld (noted z v s word).side (noted z v s word).worker
knows_next z v s word may sound knows = go s may sound
  where
    less : (s : Step) → HoldsLess v.side (noted z v s word).side → KnowsHeld (noted z v s word).side v.worker
    less s is = knows_less v.side (noted z v s word).side (steps_learn z v s word).facts v.worker knows is

    go : (s : Step) → Allowed z v s → Sound z (noted z v s word) → KnowsHeld (noted z v s word).side (noted z v s word).worker
    go (Step.writes p u) may sound = knows
    go (Step.opens size) may sound =
        let start = open_side v.side v.next_number in
        let d = own_desc v in
        let p = entries_of (next_entries v size) in
        less (Step.opens size) (holds_less.further v.side start (note_entries start d p size) record { unsettled = refl; debts = λ q i. i } (entries start d p size))
    go (Step.reads r) may sound = less (Step.reads r) (a_reading HoldsLess holds_less v r word)
    go (Step.places d e c old) may sound = a_place z v d e c old may.step knows (cell_in word)
    go (Step.settles x c d e old) may sound =
        a_settle z v x c d e old may.step knows (is_none old && eqb word (mark_number x)) (is_number v.side.unsettled v.worker x) refl (λ f. sound.one_desc x f d)
    go (Step.decides d k) may sound = less (Step.decides d k) (a_control_word HoldsLess holds_less v.side d (decided_word d k word))
    go (Step.releases d e c k value) may sound =
        less (Step.releases d e c k value) (a_release v.side d e c (size_in v.opened d.number) (is_number v.side.current v.worker d))
    go Step.claims may sound = less Step.claims record { unsettled = refl; debts = λ q i. i }

-- ---- where nothing is installed

pub nothing_held : (s : Side) (who : ℕ) → s.unsettled ≡ None → s.debts ≡ [] → KnowsHeld s who
nothing_held s who settled paid = record {
  unsettled = λ n e. absurd (some_not_none n (sym e ∙ settled));
  debts = λ d c i. absurd (subst (λ (l : List Debt). In record { desc = d; cell = c } l) paid i);
}
