-- What a step that is no Release leaves of a Side, and that it notes more.
use Rattle.std.proofs.Common.{◌≡◌, ℕ, Bool, true, false, true≢false, Option, Some, None, ◌⊎◌, List, [], ◌∷◌, ◌++◌, eqb, refl, ap, ◌∙◌, subst, inl, inr, ⊎_elim}
use Rattle.rh_world.specs.World.{Cell, Control, In, Ref, is_ref}
use Rattle.rh_world.specs.World.Cell.{desc, mark, plain}
use Rattle.rh_world.specs.World.Control.{failed, succeeded, undecided, unused, withdrawn}
use Rattle.rh_world.specs.Facts.{Fact}
use Rattle.rh_world.specs.Facts.Fact.{decided, desc_is, found, installed, known, met, mismatch, which_is}
use Rattle.rh_world.specs.Sides.{Side, note_side}
use Rattle.rh_world.specs.Moves.{control_noted, mark_noted, note_all, place_noted, placed_noted, settle_noted}
use Rattle.rh_world.proofs.Tests.{by_cond}
use Rattle.rh_words.specs.View.{MarkWord, Raw, RawRow, RowWord}
use Rattle.rh_words.specs.View.MarkWord.{desc_word, entry_word}
use Rattle.rh_words.specs.View.RowWord.{length_word}
use Rattle.rh_words.specs.Words.{desc_in}
use Rattle.rh_words.specs.Steps.{desc_row_said, desc_said, stale_noted, mark_said, row_said, rows_said}

pub record More (s t : Side) : Type 0 where
  pub current : t.current ≡ s.current
  pub released : t.released ≡ s.released
  pub reads : t.reads ≡ s.reads
  pub claims : t.claims ≡ s.claims
  pub facts : (n : Fact) → In n s.facts → In n t.facts

pub more_none : (s : Side) → More s s
more_none s = record { current = refl; released = refl; reads = refl; claims = refl; facts = λ n i. i }

pub more_note : (s : Side) (n : Fact) → More s (note_side s n)
more_note s n = record { current = refl; released = refl; reads = refl; claims = refl; facts = λ m i. inr i }

pub more_all : (s : Side) (ns : List Fact) → More s (note_all s ns)
more_all s [] = more_none s
more_all s (n ∷ ns) = let m = more_all s ns in record { current = m.current; released = m.released; reads = m.reads; claims = m.claims; facts = λ o i. inr (m.facts o i) }

pub more_control : (s : Side) (d : Ref) (k : Control) → More s (control_noted s d k)
more_control s d unused = more_none s
more_control s d undecided = record { current = refl; released = refl; reads = refl; claims = refl; facts = λ n i. inr i }
more_control s d succeeded = more_note s (decided d succeeded)
more_control s d withdrawn = more_note s (decided d withdrawn)
more_control s d (failed e by) = more_note s (decided d (failed e by))

pub more_mark : (s t : Side) (x : Ref) (c : ℕ) (k : Control) → More s t → More s (mark_noted t x c k)
more_mark s t x c unused m = m
more_mark s t x c _ m = record { current = m.current; released = m.released; reads = m.reads; claims = m.claims; facts = λ n i. inr (m.facts n i) }

pub more_place : (s : Side) (x d : Ref) (e c old : ℕ) (n : Cell) → More s (place_noted s x d e c old n 0)
more_place s x d e c old (plain u) = by_cond (λ (t : Side). More s t) (eqb u old) (placed_noted s x d e c) (note_side s (mismatch d e 0))
    (λ h. record { current = refl; released = refl; reads = refl; claims = refl; facts = λ m i. inr (inr (inr i)) }) (λ h. more_note s (mismatch d e 0))
more_place s x d e c old (mark y) = more_note s (found y c)
more_place s x d e c old (desc f) = by_cond (λ (t : Side). More s t) (is_ref f d) (note_side s (installed d e)) (note_side s (met f))
    (λ h. more_note s (installed d e)) (λ h. more_note s (met f))

pub more_settle : (s : Side) (d : Ref) (e c : ℕ) (b : Bool) → More s (settle_noted s d e c b)
more_settle s d e c true = record { current = refl; released = refl; reads = refl; claims = refl; facts = λ n i. inr i }
more_settle s d e c false = record { current = refl; released = refl; reads = refl; claims = refl; facts = λ n i. i }

pub more_stale : (s : Side) (d : Ref) → More s (stale_noted s d)
more_stale s d = record { current = refl; released = refl; reads = refl; claims = refl; facts = λ n i. inr (inr i) }

-- ---- no descriptor is newly noted as decided so

abbrev pub tells_decided : Fact → Bool
tells_decided (decided d k) = true
tells_decided _ = false

-- each descriptor that is noted as decided so in the second list is noted so in the first
abbrev pub DecidesNone : Control → (l m : List Fact) → Type 0
DecidesNone k l m = (f : Ref) → In (decided f k) m → In (decided f k) l

pub none_same : (k : Control) (l : List Fact) → DecidesNone k l l
none_same k l f i = i

pub none_note : (k : Control) (n : Fact) (l : List Fact) → tells_decided n ≡ false → DecidesNone k l (n ∷ l)
none_note k n l other f i = ⊎_elim (λ (e : decided f k ≡ n). absurd (true≢false (ap tells_decided e ∙ other))) (λ j. j) i

pub none_then : (k : Control) (l m q : List Fact) → DecidesNone k l m → DecidesNone k m q → DecidesNone k l q
none_then k l m q a b f i = a f (b f i)

pub none_all : (k : Control) (s : Side) (ns : List Fact) → ((n : Fact) → In n ns → tells_decided n ≡ false) → DecidesNone k s.facts (note_all s ns).facts
none_all k s [] other = none_same k s.facts
none_all k s (n ∷ ns) other = none_then k s.facts (note_all s ns).facts (note_all s (n ∷ ns)).facts (none_all k s ns (λ m i. other m (inr i))) (none_note k n (note_all s ns).facts (other n (inl refl)))

-- what rows say is no such fact
row_tells : (d : Ref) (u : RowWord) → tells_decided (desc_row_said d u) ≡ false
row_tells d (length_word u) = refl
row_tells d _ = refl

pub rows_tell : (rs : List RawRow) (d : Ref) (n : Fact) → In n (rows_said rs d) → tells_decided n ≡ false
rows_tell [] d n i = absurd i
rows_tell (r ∷ rs) d n i = by_cond (λ (l : List Fact). In n l → tells_decided n ≡ false) (is_ref r.desc d) (desc_row_said d r.word ∷ rows_said rs d) (rows_said rs d)
    (λ yes. ⊎_elim (λ (e : n ≡ desc_row_said d r.word). ap tells_decided e ∙ row_tells d r.word) (rows_tell rs d n)) (λ no. rows_tell rs d n) i

desc_tells : (x : Ref) (o : Option Ref) (n : Fact) → In n (desc_said x o) → tells_decided n ≡ false
desc_tells x None n i = absurd i
desc_tells x (Some d) n i = ⊎_elim (λ (e : n ≡ desc_is x d). ap tells_decided e) absurd i

mark_tells : (x : Ref) (u : MarkWord) (n : Fact) → In n (mark_said x u) → tells_decided n ≡ false
mark_tells x (desc_word u) n i = desc_tells x (desc_in u) n i
mark_tells x (entry_word u) n i = ⊎_elim (λ (e : n ≡ which_is x u). ap tells_decided e) absurd i

pub in_either : (n : Fact) (l r : List Fact) → In n (l ++ r) → In n l ⊎ In n r
in_either n [] r i = inr i
in_either n (m ∷ l) r i = ⊎_elim (λ e. inl (inl e)) (λ j. ⊎_elim (λ k. inl (inr k)) inr (in_either n l r j)) i

pub marks_tell : (rs : List Raw) (x : Ref) (n : Fact) → In n (row_said rs x) → tells_decided n ≡ false
marks_tell [] x n i = absurd i
marks_tell (r ∷ rs) x n i = by_cond (λ (l : List Fact). In n l → tells_decided n ≡ false) (is_ref r.mark x) (mark_said x r.word ++ row_said rs x) (row_said rs x)
    (λ yes j. ⊎_elim (mark_tells x r.word n) (marks_tell rs x n) (in_either n (mark_said x r.word) (row_said rs x) j)) (λ no. marks_tell rs x n) i

none_decided : (k : Control) (s : Side) (d : Ref) (said : Control) → (said ≡ k → In (decided d k) s.facts) → DecidesNone k s.facts (decided d said ∷ s.facts)
none_decided k s d said had f i = ⊎_elim
    (λ (e : decided f k ≡ decided d said).
    let same : said ≡ k = cc in
    let here : d ≡ f = cc in
    subst (λ (y : Ref). In (decided y k) s.facts) here (had same))
    (λ j. j) i

-- a control tells how its descriptor is decided
pub none_control : (k : Control) (s : Side) (d : Ref) (said : Control) → (said ≡ k → In (decided d k) s.facts) → DecidesNone k s.facts (control_noted s d said).facts
none_control k s d unused had = none_same k s.facts
none_control k s d undecided had = none_note k (known d) s.facts refl
none_control k s d succeeded had = none_decided k s d succeeded had
none_control k s d withdrawn had = none_decided k s d withdrawn had
none_control k s d (failed e by) had = none_decided k s d (failed e by) had
