-- Which acts change a cell, and that the answers count them.
use Rattle.std.proofs.Common.{◌≡◌, ◌≢◌, ℕ, suc, ◌-◌, ◌^◌, ◌<◌, inl, inr, refl, sym, ap, ◌∙◌, subst, arith, ne_eqb, length, get_or, List, [], ◌∷◌, Bool, true, false, cond, zero-add}
use Rattle.std.specs.Prelude.{nat_eq, not}
use Rattle.std.specs.List.{Contains, count_by, sum_by}
use Rattle.std.proofs.lemmas.Bool.{cases_eq}
use Rattle.std.proofs.lemmas.Bool.Decides.{nat_tests}
use Rattle.std.proofs.lemmas.List.Elements.{Contains-get_or}
use Rattle.std.proofs.lemmas.List.Folds.{list_any_at, list_any_none}
use Rattle.std.proofs.lemmas.List.Sums.{sum_by-append, sum_by-cons}
use Rattle.rh_layout.specs.Round.{cell_ahead}
use Rattle.rh_layout.specs.Order.{home_of}
use Rattle.rh_probe.specs.Segment.{IsAway}
use Rattle.rh_layout.specs.Key.{cell_of}
use Rattle.rh_edit.specs.News.{inserted_at, shifted_back}
use Rattle.rh_edit.proofs.NewsLemmas.{inserted_at_above, inserted_at_at, shifted_back_cleared}
use Rattle.rh_ledger.specs.declared.tally.Kind.{Kind}
use Rattle.rh_ledger.specs.declared.tally.Kind.TheVariants.{Insert, Remove, Ask}
use Rattle.rh_layout.specs.declared.entry.Entry.{Entry}
use Rattle.rh_acts.specs.Act.{entry, Act, changes}
use Rattle.rh_acts.specs.Done.{Kept, KeyDone, IsDone}
use Rattle.rh_acts.specs.KeyActs.{IsFrontAct, IsInsertAct, IsRemoveAct, IsAbsenceAct}
use Rattle.rh_acts.specs.Laws.{AnswerIsChange, AnswersCountChanges}
use Rattle.rh_acts.specs.Workers.{how_many}

test_differ : (o n : ℕ) → (o ≡ n → ⊥) → not (nat_eq o n) ≡ true
test_differ o n ne = ap not (ne_eqb o n ne)

test_same : (o n : ℕ) → o ≡ n → not (nat_eq o n) ≡ false
test_same o n e = grind (arith, nat_tests)

away_full : (b c value : ℕ) → IsAway b c value → 0 < value
away_full b c value away = omega (arith, away.1)

-- an entry of a front, whose old value is not the new one
one_changes : (n h : ℕ) (act : Act) (olds news : List ℕ) (front : IsFrontAct n h act olds news) (p : ℕ) → p < length olds → (get_or olds p 0 ≡ get_or news p 0 → ⊥) → changes act ≡ true
one_changes n h act olds news front p inside ne =
    let e = entry (cell_ahead n h p) (get_or olds p 0) (get_or news p 0) in
    let in' : Contains act e = front.has p inside in
    list_any_at (λ (x : Entry). not (nat_eq x.old x.new)) act in'.0 e in'.1 (subst (λ (x : Entry). not (nat_eq x.old x.new) ≡ true) (sym in'.2) (test_differ e.old e.new ne))

-- The last cell was empty and is full.
insert_changes : (b k : ℕ) (act : Act) → IsInsertAct b k act → changes act ≡ true
insert_changes b k act ins =
    let seen = ins.0 in
    let t = ins.1 in
    let inside : t.offset < length seen = omega (arith, t.free.from, t.free.within) in
    let full : 0 < get_or (inserted_at (cell_of k) seen t.offset) t.last 0 = elim (cases_eq t.offset t.last) [
      | inl is ↦ let here = inserted_at_at (cell_of k) seen t.offset inside t.last (sym is) in omega (arith, here)
      | inr ne ↦
          let before = inserted_at_above (cell_of k) seen t.offset inside t.last (omega (arith, ne, t.free.from)) t.free.within in
          omega (arith, before, t.free.full (t.last - 1) (omega (arith, ne, t.free.from)) (omega (arith, ne, t.free.from)))
    ] in
    one_changes (2 ^ b) (home_of b k) act seen (inserted_at (cell_of k) seen t.offset) t.front t.last t.free.within (λ e. omega (arith, full, t.free.free, e))

-- The cell before the last was full and is empty.
pub remove_changes : (b k : ℕ) (act : Act) → IsRemoveAct b k act → changes act ≡ true
remove_changes b k act rem =
    let seen = rem.0 in
    let t = rem.1 in
    let p = length seen - 2 in
    let h = home_of b k in
    let cleared : 0 ≡ get_or (shifted_back seen t.offset) p 0 = shifted_back_cleared seen t.offset (omega (arith, t.stop.from, t.stop.within)) p (omega (arith, t.stop.from, t.stop.within)) in
    let full : 0 < get_or seen p 0 = elim (cases_eq t.offset p) [
      | inl is ↦ let here = ap (λ m. get_or seen m 0) (sym is) ∙ t.here.2 in omega (arith, here)
      | inr ne ↦ away_full b (cell_ahead (2 ^ b) h p) (get_or seen p 0) (t.stop.between p (omega (arith, ne, t.ends, t.stop.from, t.stop.within)) (omega (arith, t.ends, t.stop.from, t.stop.within)))
    ] in
    one_changes (2 ^ b) h act seen (shifted_back seen t.offset) t.front p (omega (arith, t.stop.within)) (λ e. omega (arith, full, cleared, e))

pub absence_changes : (b k : ℕ) (act : Act) → IsAbsenceAct b k act → changes act ≡ false
absence_changes b k act none = list_any_none (λ (e : Entry). not (nat_eq e.old e.new)) act (λ i d l.
    let got = (none.1).front.only (get_or act i d) (Contains-get_or act i d l) in
    test_same (get_or act i d).old (get_or act i d).new (ap (λ (x : Entry). x.old) got.2 ∙ sym (ap (λ (x : Entry). x.new) got.2)))

pub answer_is_change : AnswerIsChange
answer_is_change Insert b k true act does = insert_changes b k act does
answer_is_change Insert b k false act does = absurd does
answer_is_change Remove b k true act does = remove_changes b k act does
answer_is_change Remove b k false act does = absence_changes b k act does
answer_is_change Ask b k answer act does = absurd does

-- ---- the answers

pub as_many_answers : (kind : Kind) (b : ℕ) (reads : List Kept) (keys : List ℕ) (acts : List Act) (answers : List Bool) → IsDone kind b reads keys acts answers → length answers ≡ length keys
as_many_answers kind b reads [] acts answers done = ap length done.1
as_many_answers kind b reads (k ∷ keys) acts answers done = ap length done.5 ∙ ap suc (as_many_answers kind b reads keys done.1 done.3 done.7)

-- the answer of each key counts its acts, and so they do for all
pub answers_count : (g : Act → ℕ) (kind : Kind) (b : ℕ) (reads : List Kept) (keys : List ℕ) (acts : List Act) (answers : List Bool)
    → ((k : ℕ) (first : List Act) (so : Bool) → KeyDone kind b reads k first so → cond so 1 0 ≡ sum_by g first)
    → IsDone kind b reads keys acts answers → how_many answers ≡ sum_by g acts
answers_count g kind b reads [] acts answers one done = ap how_many done.1 ∙ sym (ap (sum_by g) done.0)
answers_count g kind b reads (k ∷ keys) acts answers one done =
    let rest = answers_count g kind b reads keys done.1 done.3 one done.7 in
    let head = one k done.0 done.2 done.6 in
    omega (arith, ap how_many done.5, sum_by-cons (λ (so : Bool). cond {A = ℕ} so 1 0) done.2 done.3, head, rest, ap (sum_by g) done.4, sum_by-append g done.0 done.1)

act_counts : (act : Act) (so : Bool) → changes act ≡ so → cond so 1 0 ≡ count_by changes (act ∷ [])
act_counts act so is = ap (λ (t : Bool). cond {A = ℕ} t 1 0) (sym is) ∙ sym (zero-add (cond {A = ℕ} (changes act) 1 0))

pub key_counts : (kind : Kind) (b : ℕ) (reads : List Kept) (k : ℕ) (first : List Act) (so : Bool) → kind ≢ Ask → KeyDone kind b reads k first so → cond so 1 0 ≡ count_by changes first
key_counts kind b reads k first so changed (inl by) = act_counts by.act so (answer_is_change kind b k so by.act by.does) ∙ ap (count_by changes) (sym by.only)
key_counts Insert b reads k first so changed (inr by) = ap (λ (t : Bool). cond {A = ℕ} t 1 0) by.tells.0 ∙ ap (count_by changes) (sym by.none)
key_counts Remove b reads k first so changed (inr by) = absurd by.tells
key_counts Ask b reads k first so changed (inr by) = absurd (changed refl)

pub answers_count_changes : AnswersCountChanges
answers_count_changes kind b reads keys acts answers done = (
  as_many_answers kind b reads keys acts answers done,
  λ changed. answers_count (λ a. cond (changes a) 1 0) kind b reads keys acts answers (λ k first so one. key_counts kind b reads k first so changed one) done,
)
