-- Crews that are cut and glued, and what their workers have done.
use Rattle.std.proofs.Common.{◌≡◌, ℕ, zero, suc, ◌+◌, ◌<◌, ◌≤◌, Bool, true, inl, inr, ⊎_elim, List, [], ◌∷◌, ◌++◌, length, length-append, length-set, length-take-le, get_or, set, take, drop, sym, ap, ◌∙◌, subst, arith}
use Rattle.std.specs.Prelude.{nat_lt}
use Rattle.std.proofs.Math.Nat.{eq-or-lt_of_le}
use Rattle.std.proofs.lemmas.Bool.{cases_Bool}
use Rattle.std.proofs.lemmas.Bool.Decides.{nat_tests}
use Rattle.std.proofs.lemmas.List.{get_or-set_same, length-drop}
use mathlib.Core.Option.{some, some-ne-none, some-injective}
use lib.ListN.{get_elem?}
use Rattle.rh_rule.specs.declared.rule.Sitter.{Sitter}
use Rattle.rh_words.specs.View.{View}
use Rattle.rh_rule.specs.Seats.{InView, sitter}
use Rattle.rh_rule.proofs.SeatsKept.{at_append, at_drop, at_take, item_at, one_at, there}
use Rattle.rh_shared.specs.Rests.{SeatRests}
use Rattle.rh_shared.specs.Seats.{trace_of, view_of}
use Rattle.rh_shared.specs.declared.seat.Seat.{Seat}
use Rattle.rh_shared.specs.declared.table.Table.{Table}
use Rattle.rh_shared.specs.Crews.{SitsAt, IsCut, IsFresh, IsJoined, IsQuiet, views_of}
use Rattle.rh_threads.specs.Crew.{AllMayStart, AreHalves, CanWork, HaveWorked, WorksOn}
use Rattle.rh_threads.specs.Hands.{HasStopped, InPairs, IsHand, Past, HandStands}
use Rattle.rh_threads.specs.declared.crew.Crew.{Crew}
use Rattle.rh_threads.specs.declared.hand.Hand.{Hand}

-- ---- pairs of views and hands

pub at_or : {A : Type 0} (l : List A) (i : ℕ) (a d : A) → get_elem? l i ≡ some a → get_or l i d ≡ a
at_or [] i a d e = absurd (some-ne-none a (sym e))
at_or (x ∷ xs) zero a d e = some-injective x a e
at_or (x ∷ xs) (suc i) a d e = at_or xs i a d e

pairs_left : (P : View → Hand → Type 0) (vs : List Sitter) (hs : List Hand) (n : ℕ) → InPairs P vs hs → InPairs P (take n vs) (take n hs)
pairs_left P vs hs n each r s h e f = each r s h (at_take n vs r s e).1 (at_take n hs r h f).1

pairs_right : (P : View → Hand → Type 0) (vs : List Sitter) (hs : List Hand) (n : ℕ) → InPairs P vs hs → InPairs P (drop n vs) (drop n hs)
pairs_right P vs hs n each r s h e f = each (r + n) s h (at_drop n vs r s e) (at_drop n hs r h f)

pairs_both : (P : View → Hand → Type 0) (vs us : List Sitter) (hs gs : List Hand) → length vs ≡ length hs → InPairs P vs hs → InPairs P us gs → InPairs P (vs ++ us) (hs ++ gs)
pairs_both P vs us hs gs long first second r s h e f = ⊎_elim
    (λ (here : get_elem? vs r ≡ some s). ⊎_elim
    (λ (mine : get_elem? hs r ≡ some h). first r s h here mine)
    (λ other. let less = there vs r s here in let k = other.1 in absurd (omega (arith, less, k, long))) (at_append hs gs r h f))
    (λ later. ⊎_elim
    (λ (mine : get_elem? hs r ≡ some h). let less = there hs r h mine in let k = later.1 in absurd (omega (arith, less, k, long)))
    (λ other.
    let same : other.0 ≡ later.0 = (let k = later.1 in let j = other.1 in omega (arith, k, j, long)) in
    second later.0 s h later.2 (subst (λ (i : ℕ). get_elem? gs i ≡ some h) same other.2))
    (at_append hs gs r h f))
    (at_append vs us r s e)

view_both : (P : View → Type 0) (vs us : List Sitter) → InView P vs → InView P us → InView P (vs ++ us)
view_both P vs us first second r s e = ⊎_elim (λ here. first r s here) (λ later. second later.0 s later.2) (at_append vs us r s e)

-- ---- halves

pub are_halves : (c left right : Crew) (at half : ℕ) → IsCut c.seat left.seat right.seat at → at ≡ c.seat.side.worker + half → left.hands ≡ take half c.hands → right.hands ≡ drop half c.hands
    → AreHalves c left right
are_halves c left right at half cut at_is first second =
    let same : half ≡ left.seat.count = (let m = cut.middle in omega (arith, m, at_is)) in record {
      seats = subst (IsCut c.seat left.seat right.seat) (sym cut.second) cut;
      left_hands = first ∙ ap (λ (n : ℕ). take n c.hands) same;
      right_hands = second ∙ ap (λ (n : ℕ). drop n c.hands) same;
    }

module _ (t : Table) (keys : List ℕ) (c left right : Crew) (can : CanWork t keys c) (cut : AreHalves c left right) where
  of_left : (P : View → Hand → Type 0) → InPairs P (views_of c.seat) c.hands → InPairs P (views_of left.seat) left.hands
  of_left P each = subst (λ (hs : List Hand). InPairs P (views_of left.seat) hs) (sym cut.left_hands) (subst (λ (vs : List Sitter). InPairs P vs (take left.seat.count c.hands)) (sym cut.seats.left_views) (pairs_left P (views_of c.seat) c.hands left.seat.count each))

  of_right : (P : View → Hand → Type 0) → InPairs P (views_of c.seat) c.hands → InPairs P (views_of right.seat) right.hands
  of_right P each = subst (λ (hs : List Hand). InPairs P (views_of right.seat) hs) (sym cut.right_hands) (subst (λ (vs : List Sitter). InPairs P vs (drop left.seat.count c.hands)) (sym cut.seats.right_views) (pairs_right P (views_of c.seat) c.hands left.seat.count each))

  can_work : (half : Crew) → SitsAt t half.seat → InView IsFresh (views_of half.seat) → length half.hands ≡ half.seat.count → InPairs (λ v h. IsHand t.shape keys h v) (views_of half.seat) half.hands → CanWork t keys half
  can_work half here fresh long hands = record { crew = record { here = here; long = long; hands = hands; list = can.crew.list; keys_are = can.crew.keys_are }; fresh = fresh }

  pub half_can_left : SitsAt t left.seat → InView IsFresh (views_of left.seat) → CanWork t keys left
  half_can_left here fresh = can_work left here fresh
      (ap length cut.left_hands ∙ length-take-le left.seat.count c.hands (let l = can.crew.long in let m = cut.seats.middle in let e = cut.seats.end in omega (arith, l, m, e)))
      (of_left (λ v h. IsHand t.shape keys h v) can.crew.hands)

  pub half_can_right : SitsAt t right.seat → InView IsFresh (views_of right.seat) → CanWork t keys right
  half_can_right here fresh = can_work right here fresh
      (ap length cut.right_hands ∙ length-drop left.seat.count c.hands ∙ (let l = can.crew.long in let m = cut.seats.middle in let e = cut.seats.end in omega (arith, l, m, e)))
      (of_right (λ v h. IsHand t.shape keys h v) can.crew.hands)

  abbrev stood : (ℕ → Past) → View → Hand → Type 0
  stood past v h = HandStands t.shape keys (past v.worker) h v

  -- both halves have worked
  pub all_worked : (l r both : Crew) → HaveWorked t keys left l → HaveWorked t keys right r → SitsAt t both.seat → IsJoined l.seat r.seat both.seat → both.hands ≡ l.hands ++ r.hands → HaveWorked t keys c both
  all_worked l r both a b here joined hands = record {
    crew = record {
      here = here;
      long = ap length hands ∙ length-append l.hands r.hands ∙ (let x = a.crew.long in let y = b.crew.long in let j = joined.count in omega (arith, x, y, j));
      hands = of_both (λ v h. IsHand t.shape keys h v) a.crew.hands b.crew.hands;
      list = can.crew.list;
      keys_are = can.crew.keys_are;
    };
    first = joined.first ∙ a.first ∙ cut.seats.first;
    count = let j = joined.count in let x = a.count in let y = b.count in let m = cut.seats.middle in let e = cut.seats.end in omega (arith, j, x, y, m, e);
    quiet = subst (InView IsQuiet) (sym joined.views) (view_both IsQuiet (views_of l.seat) (views_of r.seat) a.quiet b.quiet);
    stopped = of_both (λ v h. HasStopped t.shape h v) a.stopped b.stopped;
    stands = λ past was. of_both (stood past) (a.stands past (of_left (stood past) was)) (b.stands past (of_right (stood past) was));
  }
    where
      of_both : (P : View → Hand → Type 0) → InPairs P (views_of l.seat) l.hands → InPairs P (views_of r.seat) r.hands → InPairs P (views_of both.seat) both.hands
      of_both P x y = subst (λ (hs : List Hand). InPairs P (views_of both.seat) hs) (sym hands) (subst (λ (vs : List Sitter). InPairs P vs (l.hands ++ r.hands)) (sym joined.views)
          (pairs_both P (views_of l.seat) (views_of r.seat) l.hands r.hands (l.seat.spans.long ∙ sym a.crew.long) x y))

-- the first of the second half may have a thread, and so may the others of each half
pub may_start_all : (allows : ℕ → Bool) (first half at rest total : ℕ) → first + half ≡ at → at + rest ≡ first + total → AllMayStart allows first half → allows at ≡ true
    → AllMayStart allows at rest → AllMayStart allows first total
may_start_all allows first half at rest total middle end left one right w after before = elim (cases_Bool (nat_lt w at)) [
  | inl less ↦ left w after (grind (arith, nat_tests))
  | inr other ↦ elim (eq-or-lt_of_le (let more : at ≤ w = grind (arith, nat_tests) in more)) [
    | inl same ↦ subst (λ (v : ℕ). allows v ≡ true) same one
    | inr beyond ↦ right w beyond (omega (arith, end, before))
  ]
]

-- ---- one worker

pub alone_views : (s : Seat) → s.count ≡ 1 → views_of s ≡ sitter (view_of s) (trace_of s) ∷ []
alone_views s one = ap (λ x. x.0) (s.alone one)

pub alone_at : (s : Seat) → s.count ≡ 1 → get_elem? (views_of s) 0 ≡ some (sitter (view_of s) (trace_of s))
alone_at s one = ap (λ (l : List Sitter). get_elem? l 0) (alone_views s one)

pub front_at : (c : Crew) (h : Hand) → length c.hands ≡ c.seat.count → c.seat.count ≡ 1 → h ≡ get_or c.hands 0 h → get_elem? c.hands 0 ≡ some h
front_at c h long one is = let it = item_at c.hands 0 (omega (arith, long, one)) in it.1 ∙ ap (λ (g : Hand). some g) (sym (is ∙ at_or c.hands 0 it.0 h it.1))

module _ (t : Table) (keys : List ℕ) (c : Crew) (one : c.seat.count ≡ 1) (can : CanWork t keys c) (seat : Seat) (hand next : Hand) (at : get_elem? c.hands 0 ≡ some hand) where
  pub one_worked : WorksOn t keys hand c.seat next seat → HasStopped t.shape next (view_of seat) → HaveWorked t keys c (record { seat = seat; hands = set c.hands 0 next })
  one_worked works why = record {
    crew = record {
      here = record { own = rests.here.own; within = let w = can.crew.here.within in let s = works.stays.same.worker in omega (arith, w, one, alone, s) };
      long = length-set c.hands 0 next ∙ can.crew.long ∙ one ∙ sym alone;
      hands = each (λ v h. IsHand t.shape keys h v) works.hand;
      list = can.crew.list;
      keys_are = can.crew.keys_are;
    };
    first = works.stays.same.worker;
    count = alone ∙ sym one;
    quiet = λ r s e. subst (λ (k : Sitter). IsQuiet k.view) (here_is r s e).1 quiet;
    stopped = each (λ v h. HasStopped t.shape h v) why;
    stands = λ past was. each (λ v h. HandStands t.shape keys (past v.worker) h v)
        (works.stands (past (view_of seat).worker) (subst (λ (w : ℕ). HandStands t.shape keys (past w) hand (view_of c.seat)) (sym whose) (was 0 (sitter (view_of c.seat) (trace_of c.seat)) hand (alone_at c.seat one) at)));
  }
    where
      rests : SeatRests t seat
      rests = works.stays.rests

      alone : seat.count ≡ 1
      alone = rests.here.alone

      quiet : IsQuiet (view_of seat)
      quiet = record { still = rests.knows.still; rest = record { closed = rests.rested.clear.own.current; settled = rests.rested.clear.owes.settled; paid = rests.rested.clear.owes.paid } }

      whose : (view_of seat).worker ≡ (view_of c.seat).worker
      whose = seat.side.same_worker ∙ works.stays.same.worker ∙ sym c.seat.side.same_worker

      here_is : (r : ℕ) (s : Sitter) → get_elem? (views_of seat) r ≡ some s → (r ≡ 0) × (sitter (view_of seat) (trace_of seat) ≡ s)
      here_is r s e = one_at (sitter (view_of seat) (trace_of seat)) s r (subst (λ (l : List Sitter). get_elem? l r ≡ some s) (alone_views seat alone) e)

      each : (P : View → Hand → Type 0) → P (view_of seat) next → InPairs P (views_of seat) (set c.hands 0 next)
      each P p r s h e f =
          let q = here_is r s e in
          let less : 0 < length c.hands = let l = can.crew.long in omega (arith, l, one) in
          let is_next : next ≡ h = sym (get_or-set_same c.hands 0 next h less) ∙ at_or (set c.hands 0 next) 0 h h (subst (λ (i : ℕ). get_elem? (set c.hands 0 next) i ≡ some h) q.0 f) in
          subst (λ (g : Hand). P s.view g) is_next (subst (λ (k : Sitter). P k.view next) q.1 p)
