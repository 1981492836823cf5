-- What a worker's done keys say of its acts, and how they grow.
use Rattle.std.proofs.Common.{ℕ, inl, inr, refl, sym, ap, ◌∙◌, subst, ◌^◌, get_or, List, [], ◌∷◌, ◌++◌, Bool, append_assoc, true, false}
use Rattle.std.specs.List.{Contains}
use Rattle.std.proofs.lemmas.List.{append-nil}
use Rattle.std.proofs.lemmas.List.Elements.{Contains-append_left, Contains-append_right, Contains-append_cases}
use Rattle.rh_layout.specs.Round.{cell_ahead}
use Rattle.rh_layout.specs.Key.{cell_of}
use Rattle.rh_layout.specs.Order.{home_of}
use Rattle.rh_ledger.specs.declared.tally.Kind.{Kind}
use Rattle.rh_ledger.specs.declared.tally.Kind.TheVariants.{Insert, Remove, Ask}
use Rattle.rh_acts.specs.Act.{Act}
use Rattle.rh_acts.specs.Done.{Kept, kept, Does, IsAsRead, KeyDone, IsDone}
use Rattle.rh_acts.specs.KeyActs.{IsInsertAct, IsRemovalAct}
use Rattle.rh_acts.proofs.ActLemmas.{contains_head, contains_tail, contains_cases, contains_none}

-- ---- keys and acts

-- each key is done by some of the acts
pub done_key : (kind : Kind) (b : ℕ) (reads : List Kept) (keys : List ℕ) (acts : List Act) (answers : List Bool) → IsDone kind b reads keys acts answers → (k : ℕ) → Contains keys k → (first : List Act) × (so : Bool) × KeyDone kind b reads k first so × ((a : Act) → Contains first a → Contains acts a)
done_key kind b reads [] acts answers done k h = absurd (contains_none k h)
done_key kind b reads (x ∷ keys) acts answers done k h =
    elim (contains_cases x k keys h) [
      | inl is ↦ (done.0, done.2, subst (λ z. KeyDone kind b reads z done.0 done.2) is done.6, λ a in'. subst (λ (ys : List Act). Contains ys a) (sym done.4) (Contains-append_left done.0 done.1 a in'))
      | inr later ↦
          let got = done_key kind b reads keys done.1 done.3 done.7 k later in
          (got.0, got.1, got.2, λ a in'. subst (λ (ys : List Act). Contains ys a) (sym done.4) (Contains-append_right done.0 done.1 a (got.3 a in')))
    ]

-- each act is one of those of a key
pub done_act : (kind : Kind) (b : ℕ) (reads : List Kept) (keys : List ℕ) (acts : List Act) (answers : List Bool) → IsDone kind b reads keys acts answers → (a : Act) → Contains acts a → (k : ℕ) × Contains keys k × (first : List Act) × (so : Bool) × KeyDone kind b reads k first so × Contains first a
done_act kind b reads [] acts answers done a h = absurd (contains_none a (subst (λ (ys : List Act). Contains ys a) done.0 h))
done_act kind b reads (x ∷ keys) acts answers done a h =
    elim (Contains-append_cases done.0 done.1 a (subst (λ (ys : List Act). Contains ys a) done.4 h)) [
      | inl in' ↦ (x, contains_head x keys, done.0, done.2, done.6, in')
      | inr later ↦
          let got = done_act kind b reads keys done.1 done.3 done.7 a later in
          (got.0, contains_tail x got.0 keys got.1, got.2, got.3, got.4, got.5)
    ]

-- the act that does a key, by its kind
pub does_insert : (b k : ℕ) (answer : Bool) (act : Act) → Does Insert b k answer act → IsInsertAct b k act
does_insert b k true act does = does
does_insert b k false act does = absurd does

pub does_removal : (b k : ℕ) (answer : Bool) (act : Act) → Does Remove b k answer act → IsRemovalAct b k act
does_removal b k true act does = inl does
does_removal b k false act does = inr does

-- ---- one key more

pub one_more : (kind : Kind) (b : ℕ) (reads : List Kept) (keys : List ℕ) (k : ℕ) (acts first : List Act) (answers : List Bool) (so : Bool) → IsDone kind b reads keys acts answers → KeyDone kind b reads k first so → IsDone kind b reads (keys ++ k ∷ []) (acts ++ first) (answers ++ so ∷ [])
one_more kind b reads [] k acts first answers so done one = (
  first,
  [],
  so,
  [],
  ap (λ (ys : List Act). ys ++ first) done.0 ∙ sym (append-nil first),
  ap (λ (ys : List Bool). ys ++ so ∷ []) done.1,
  one,
  (refl, refl),
)
one_more kind b reads (x ∷ keys) k acts first answers so done one = (
  done.0,
  done.1 ++ first,
  done.2,
  done.3 ++ so ∷ [],
  ap (λ (ys : List Act). ys ++ first) done.4 ∙ append_assoc done.0 done.1 first,
  ap (λ (ys : List Bool). ys ++ so ∷ []) done.5,
  done.6,
  one_more kind b reads keys k done.1 first done.3 so done.7 one,
)

-- ---- more reads

as_more_read : (kind : Kind) (b : ℕ) (reads more : List Kept) (k : ℕ) (answer : Bool) → ((r : Kept) → Contains reads r → Contains more r) → IsAsRead kind b reads k answer → IsAsRead kind b more k answer
as_more_read Insert b reads more k answer all is = (is.0, (is.1.0, all (kept is.1.0 (cell_of k)) is.1.1))
as_more_read Remove b reads more k answer all is = is
as_more_read Ask b reads more k answer all is = record {
  seen = is.seen;
  room = is.room;
  read = λ p l. all (kept (cell_ahead (2 ^ b) (home_of b k) p) (get_or is.seen p 0)) (is.read p l);
  tells = is.tells;
}

pub key_more : (kind : Kind) (b : ℕ) (reads more : List Kept) (k : ℕ) (acts : List Act) (answer : Bool) → ((r : Kept) → Contains reads r → Contains more r) → KeyDone kind b reads k acts answer → KeyDone kind b more k acts answer
key_more kind b reads more k acts answer all one = elim one [ inl by ↦ inl by | inr by ↦ inr record { none = by.none; tells = as_more_read kind b reads more k answer all by.tells } ]

pub more_read : (kind : Kind) (b : ℕ) (reads more : List Kept) (keys : List ℕ) (acts : List Act) (answers : List Bool) → ((r : Kept) → Contains reads r → Contains more r) → IsDone kind b reads keys acts answers → IsDone kind b more keys acts answers
more_read kind b reads more [] acts answers all done = done
more_read kind b reads more (x ∷ keys) acts answers all done = (
  done.0,
  done.1,
  done.2,
  done.3,
  done.4,
  done.5,
  key_more kind b reads more x done.0 done.2 all done.6,
  more_read kind b reads more keys done.1 done.3 all done.7,
)
