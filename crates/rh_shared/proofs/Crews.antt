-- The views of a seat of several workers: they are cut and joined, and a worker that is fresh rests.
use Rattle.std.proofs.Common.{◌≡◌, ℕ, zero, suc, ◌+◌, ◌-◌, ◌<◌, ◌≤◌, List, [], ◌∷◌, ◌++◌, length, length-append, length-take-le, take, drop, refl, sym, ap, ◌∙◌, subst, ⊎_elim, arith}
use Rattle.rh_world.specs.World.{Ref}
use Rattle.rh_world.proofs.Updated.{some_not_none}
use Rattle.rh_rule.specs.declared.rule.Sitter.{Sitter}
use Rattle.rh_words.specs.declared.shape.Shape.{Shape}
use Rattle.rh_words.specs.Parts.{word_count}
use Rattle.rh_words.specs.View.{View, round_view}
use Rattle.rh_words.specs.Steps.{IsKnown}
use Rattle.rh_rule.specs.Seats.{InView, Spans, sitter}
use Rattle.rh_shared.specs.Traces.{trace_in}
use Rattle.rh_rule.specs.Sound.{Sound}
use Rattle.rh_rule.proofs.SeatsKept.{at_append, at_drop, at_take}
use Rattle.rh_shared.specs.declared.seat.Seat.{Seat}
use Rattle.rh_shared.specs.declared.table.Table.{Table}
use Rattle.rh_shared.specs.Crews.{IsFresh, SitsAt, UsedNoRow, head_of, views_of}
use Rattle.rh_shared.specs.Rests.{IsRested, SeatRests}

pub some_words : (z : Shape) → 0 < word_count z
some_words z = omega arith

-- ---- the first view

pub head_in : (P : View → Type 0) (vs : List Sitter) → 0 < length vs → InView P vs → P (head_of vs)
head_in P [] more h = absurd (omega arith)
head_in P (x ∷ xs) more h = h 0 x refl

pub head_worker : (vs : List Sitter) (first count : ℕ) → 0 < count → Spans vs first count → (head_of vs).worker ≡ first
head_worker [] first count more s = let l = s.long in absurd (omega arith)
head_worker (x ∷ xs) first count more s = let e = s.each 0 x refl in omega (arith, e)

pub alone_is : (vs : List Sitter) → length vs ≡ 1 → vs ≡ sitter (head_of vs) (trace_in vs) ∷ []
alone_is [] one = absurd (omega arith)
alone_is (x ∷ []) one = refl
alone_is (x ∷ y ∷ ys) one = absurd (omega arith)

-- ---- cutting and joining

pub spans_take : (vs : List Sitter) (first count n : ℕ) → n ≤ count → Spans vs first count → Spans (take n vs) first n
spans_take vs first count n within s = record {
  long = length-take-le n vs (let l = s.long in omega arith);
  each = λ r k at. s.each r k (at_take n vs r k at).1;
}

length_drop : (n : ℕ) (vs : List Sitter) → length (drop n vs) ≡ length vs - n
length_drop zero vs = omega arith
length_drop (suc n) [] = omega arith
length_drop (suc n) (x ∷ xs) = let l = length_drop n xs in omega arith

pub spans_drop : (vs : List Sitter) (first count n at : ℕ) → at ≡ first + n → Spans vs first count → Spans (drop n vs) at (count - n)
spans_drop vs first count n at is s = record {
  long = let l = s.long in let d = length_drop n vs in omega arith;
  each = λ r k here. let e = s.each (r + n) k (at_drop n vs r k here) in omega (arith, e, is);
}

pub spans_append : (vs us : List Sitter) (first count at more : ℕ) → at ≡ first + count → Spans vs first count → Spans us at more → Spans (vs ++ us) first (count + more)
spans_append vs us first count at more is s t = record {
  long = length-append vs us ∙ (let a = s.long in let b = t.long in omega arith);
  each = λ r k here. ⊎_elim (λ left. s.each r k left) (λ right. let e = t.each right.0 k right.2 in let q = right.1 in let l = s.long in omega (arith, e, q, is, l)) (at_append vs us r k here);
}

pub in_take : (P : View → Type 0) (vs : List Sitter) (n : ℕ) → InView P vs → InView P (take n vs)
in_take P vs n h r k here = h r k (at_take n vs r k here).1

pub in_drop : (P : View → Type 0) (vs : List Sitter) (n : ℕ) → InView P vs → InView P (drop n vs)
in_drop P vs n h r k here = h (r + n) k (at_drop n vs r k here)

-- a part of a seat's views, of which each is so
pub record IsHalf (P : View → Type 0) (vs : List Sitter) (first count : ℕ) : Type 0 where
  pub spans : Spans vs first count
  pub each : InView P vs

module _ (P : View → Type 0) where
  pub take_half : (vs us : List Sitter) (first count n : ℕ) → us ≡ take n vs → n ≤ count → Spans vs first count → InView P vs → IsHalf P us first n
  take_half vs us first count n is within s h = subst (λ (l : List Sitter). IsHalf P l first n) (sym is) record { spans = spans_take vs first count n within s; each = in_take P vs n h }

  pub drop_half : (vs us : List Sitter) (first count n at : ℕ) → us ≡ drop n vs → at ≡ first + n → Spans vs first count → InView P vs → IsHalf P us at (count - n)
  drop_half vs us first count n at is place s h = subst (λ (l : List Sitter). IsHalf P l at (count - n)) (sym is) record { spans = spans_drop vs first count n at place s; each = in_drop P vs n h }

  module _ (vs : List Sitter) (first count : ℕ) (half : IsHalf P vs first count) where
    pub half_first : 0 < count → P (head_of vs)
    half_first more = head_in P vs (let l = half.spans.long in omega (arith, l)) half.each

    pub half_worker : 0 < count → (head_of vs).worker ≡ first
    half_worker more = head_worker vs first count more half.spans

    pub half_alone : (v : View) → v ≡ head_of vs → count ≡ 1 → vs ≡ sitter v (trace_in vs) ∷ []
    half_alone v is one = alone_is vs (half.spans.long ∙ one) ∙ ap (λ (x : View). sitter x (trace_in vs) ∷ []) (sym is)

-- ---- a fresh worker

none_known : (d : Ref) → IsKnown [] d → ⊥
none_known d h = ⊎_elim (⊎_elim (λ i. i) (λ i. i.1)) (λ i. i) h

fresh_sound : (z : Shape) (o : List ℕ) (v : View) → Sound z (round_view o v)
fresh_sound z o v = record {
  descs_used = omega arith;
  marks_used = omega arith;
  numbers = λ d own h. absurd (none_known d h);
  reads = λ k h. absurd h;
  descs = λ d h. absurd (none_known d h);
  sizes = λ d n h. absurd h;
  targets = λ d e c h m. absurd h;
  olds = λ d e u h m. absurd h;
  news = λ d e u h m. absurd h;
  marks = λ x c h. absurd h;
  marked = λ d e h. absurd h.1;
  named = λ x d h. absurd h;
  results = λ d k h. absurd h;
  deciders = λ d by h. absurd h;
  failures = λ d e n h i. absurd h;
  withdrawals = λ d by h. absurd h;
  rows = λ d own h is. absurd (none_known d h);
  one_size = λ d m n h i. absurd h;
  one_target = λ d e b c h i. absurd h;
  one_old = λ d e t u h i. absurd h;
  one_new = λ d e t u h i. absurd h;
  one_result = λ d j k h i. absurd h;
  one_desc = λ x d f h i. absurd h;
  one_entry = λ x e f h i. absurd h;
}

fresh_rested : (o : List ℕ) (v : View) → IsRested (round_view o v)
fresh_rested o v = record {
  clear = record {
    own = record {
      owns = record { current = refl; newest = tt; noted = λ d i. absurd i; last = λ n e. absurd (some_not_none n (sym e)) };
      row = λ n e. absurd (let i : ⊥ = omega (arith, e) in i);
    };
    owes = record { settled = refl; paid = refl; unreleased = refl };
  };
  over = λ d i. absurd i;
}

-- ---- a worker that used no row

pub fresh_row : (z : Shape) (v : View) → IsFresh v → UsedNoRow z v
fresh_row z v fresh = subst (UsedNoRow z) (sym fresh) (record { still = refl; sound = fresh_sound z v.opening v; rested = fresh_rested v.opening v; counts = record { number = refl; control = refl; marks = refl } })

pub fresh_rows : (z : Shape) (vs : List Sitter) → InView IsFresh vs → InView (UsedNoRow z) vs
fresh_rows z vs h r k at = fresh_row z k.view (h r k at)

pub unused_rests : (t : Table) (s : Seat) → SitsAt t s → s.count ≡ 1 → s.side.known.view ≡ head_of (views_of s) → UsedNoRow t.shape (head_of (views_of s)) → SeatRests t s
unused_rests t s at one is unused =
    let v = s.side.known.view in
    let row : UsedNoRow t.shape v = subst (UsedNoRow t.shape) (sym is) unused in
    let worker = s.side.same_worker in
    let within = at.within in
    record {
      here = record { own = at.own; alone = one };
      knows = record { worker = omega (arith, worker, within, one); still = row.still; sound = row.sound };
      rested = row.rested;
    }

pub fresh_rests : (t : Table) (s : Seat) → SitsAt t s → s.count ≡ 1 → s.side.known.view ≡ head_of (views_of s) → IsFresh (head_of (views_of s)) → SeatRests t s
fresh_rests t s at one is fresh = unused_rests t s at one is (fresh_row t.shape (head_of (views_of s)) fresh)
