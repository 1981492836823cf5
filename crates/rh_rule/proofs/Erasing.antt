-- Without the numbers of acts and the entries of failures the facts are the same, and so is what a step notes.
use Rattle.std.proofs.Common.{◌≡◌, ℕ, zero, suc, eqb, Bool, true, false, cond, List, [], ◌∷◌, map, sym, refl, ap, subst, inl, inr, ⊎_elim, Some, None, Option}
use Rattle.rh_world.specs.World.{Cell, Control, In, Ref, is_ref}
use Rattle.rh_world.specs.World.Cell.{desc, mark, plain}
use Rattle.rh_world.specs.World.Control.{unused}
use Rattle.rh_world.specs.Facts.{Fact}
use Rattle.rh_world.specs.Facts.Fact.{decided, installed, known, met, mismatch, new_is, old_is, target_is}
use Rattle.rh_world.specs.Sides.{KeptRead, Side, close_side, note_side, release_side, settle_side}
use Rattle.rh_world.specs.Moves.{Entries, IsRowFact, cell_noted, control_noted, covers, mark_noted, note_all, note_entries, place_noted, placed_noted, release_noted, settle_noted}
use Rattle.rh_words.specs.Words.{without_entry}
use Rattle.rh_rule.specs.Erased.{erased, erased_fact, erased_read}

-- a fact that has no number of acts and no entry of a failure
abbrev pub IsWhole : Fact → Type 0
IsWhole (decided d k) = ⊥
IsWhole (mismatch d e n) = ⊥
IsWhole _ = Unit {0}

same_note : (m n : Fact) → n ≡ erased_fact m → IsWhole n → n ≡ m
same_note (decided d k) n e h = absurd (subst IsWhole e h)
same_note (mismatch d i k) n e h = absurd (subst IsWhole e h)
same_note _ n e h = e

in_notes : (n : Fact) (l : List Fact) → IsWhole n → In n (map erased_fact l) → In n l
in_notes n [] h i = i
in_notes n (m ∷ l) h i = ⊎_elim (λ e. inl (same_note m n e h)) (λ j. inr (in_notes n l h j)) i

pub in_whole : (n : Fact) (s : Side) → IsWhole n → In n (erased s).facts → In n s.facts
in_whole n s h i = in_notes n s.facts h i

-- a read as its worker knows it is one of the world
pub of_erased : (ks : List KeptRead) (k : KeptRead) → In k (map erased_read ks) → (j : KeptRead) × In j ks × (k ≡ erased_read j)
of_erased [] k i = absurd i
of_erased (j ∷ ks) k i = ⊎_elim (λ e. (j, inl refl, e)) (λ h. let got = of_erased ks k h in (got.0, inr got.1, got.2)) i

mismatch_of : (m : Fact) (d : Ref) (e j : ℕ) → mismatch d e j ≡ erased_fact m → (k : ℕ) × (mismatch d e k ≡ m)
mismatch_of (mismatch f i k) d e j q = (k, (let a : d ≡ f = cc in let b : e ≡ i = cc in λ t. mismatch (a t) (b t) k))
mismatch_of _ d e j q = cc

in_mismatches : (d : Ref) (e j : ℕ) (l : List Fact) → In (mismatch d e j) (map erased_fact l)
    → (k : ℕ) × In (mismatch d e k) l
in_mismatches d e j [] i = absurd i
in_mismatches d e j (m ∷ l) i = ⊎_elim (λ q. let t = mismatch_of m d e j q in (t.0, inl t.1)) (λ h. let t = in_mismatches d e j l h in (t.0, inr t.1)) i

pub in_mismatch : (d : Ref) (e j : ℕ) (s : Side) → In (mismatch d e j) (erased s).facts
    → (k : ℕ) × In (mismatch d e k) s.facts
in_mismatch d e j s i = in_mismatches d e j s.facts i

decided_of : (m : Fact) (d : Ref) (k : Control) → decided d k ≡ erased_fact m → (j : Control) × (without_entry j ≡ k) × (decided d j ≡ m)
decided_of (decided f j) d k q = (j, (let b : without_entry j ≡ k = cc in b), (let a : d ≡ f = cc in λ t. decided (a t) j))
decided_of _ d k q = cc

in_results : (d : Ref) (k : Control) (l : List Fact) → In (decided d k) (map erased_fact l)
    → (j : Control) × (without_entry j ≡ k) × In (decided d j) l
in_results d k [] i = absurd i
in_results d k (m ∷ l) i = ⊎_elim (λ q. let t = decided_of m d k q in (t.0, t.1, inl t.2)) (λ h. let t = in_results d k l h in (t.0, t.1, inr t.2)) i

pub in_decided : (d : Ref) (k : Control) (s : Side) → In (decided d k) (erased s).facts
    → (j : Control) × (without_entry j ≡ k) × In (decided d j) s.facts
in_decided d k s i = in_results d k s.facts i

-- ---- what is noted

erased_cond : (b : Bool) (s t : Side) → cond b (erased s) (erased t) ≡ erased (cond b s t)
erased_cond true s t = refl
erased_cond false s t = refl

pub erased_either : (b : Bool) (s t s' t' : Side) → s' ≡ erased s → t' ≡ erased t → cond b s' t' ≡ erased (cond b s t)
erased_either true s t s' t' p q = p
erased_either false s t s' t' p q = q

pub erased_cell : (s : Side) (c : ℕ) (k : Cell) (q : Option ℕ) (acts next : ℕ)
    → cell_noted (erased s) c k q 0 next ≡ erased (cell_noted s c k q acts next)
erased_cell s c (plain u) None acts next = refl
erased_cell s c (plain u) (Some p) acts next = refl
erased_cell s c (mark x) q acts next = refl
erased_cell s c (desc d) q acts next = refl

pub erased_control : (s : Side) (d : Ref) (k : Control) → control_noted (erased s) d (without_entry k) ≡ erased (control_noted s d k)
erased_control s d unused = refl
erased_control s d _ = refl

pub erased_mark : (s : Side) (x : Ref) (c : ℕ) (k : Control) → mark_noted (erased s) x c (without_entry k) ≡ erased (mark_noted s x c k)
erased_mark s x c unused = refl
erased_mark s x c _ = refl

pub erased_place : (s : Side) (x d : Ref) (e c old : ℕ) (k : Cell) (acts : ℕ)
    → place_noted (erased s) x d e c old k 0 ≡ erased (place_noted s x d e c old k acts)
erased_place s x d e c old (plain u) acts = erased_cond (eqb u old) (placed_noted s x d e c) (note_side s (mismatch d e acts))
erased_place s x d e c old (mark y) acts = refl
erased_place s x d e c old (desc f) acts = erased_cond (is_ref f d) (note_side s (installed d e)) (note_side s (met f))

pub erased_settle : (s : Side) (d : Ref) (e c : ℕ) (b : Bool)
    → settle_noted (erased s) d e c b ≡ erased (settle_noted s d e c b)
erased_settle s d e c b = erased_cond b (note_side (settle_side s d c) (installed d e)) (settle_side s d c)

pub erased_release : (s : Side) (e n : ℕ) → release_noted (erased s) e n ≡ erased (release_noted s e n)
erased_release s e n = erased_cond (covers n (e ∷ s.released)) (close_side (release_side s e)) (release_side s e)

-- what rows say is whole
row_whole : (n : Fact) → IsRowFact n → erased_fact n ≡ n
row_whole (met d) h = absurd h
row_whole (known d) h = absurd h
row_whole (decided d k) h = absurd h
row_whole (installed d e) h = absurd h
row_whole (mismatch d e i) h = absurd h
row_whole _ h = refl

pub erased_all : (s : Side) (ns : List Fact) → ((n : Fact) → In n ns → IsRowFact n) → note_all (erased s) ns ≡ erased (note_all s ns)
erased_all s [] h = refl
erased_all s (n ∷ ns) h = (λ i. note_side (erased_all s ns (λ m j. h m (inr j)) i) (sym (row_whole n (h n (inl refl))) i))

pub erased_entries : (s : Side) (d : Ref) (p : Entries) (n : ℕ)
    → note_entries (erased s) d p n ≡ erased (note_entries s d p n)
erased_entries s d p zero = refl
erased_entries s d p (suc n) =
    ap (λ (t : Side). note_side (note_side (note_side t (target_is d n (p.target n))) (old_is d n (p.old n))) (new_is d n (p.new n))) (erased_entries s d p n)
