-- Which cells are listed as changed by a step: those that change.
use Rattle.std.proofs.Common.{◌≡◌, ◌≢◌, ℕ, zero, suc, ◌+◌, ◌<◌, ◌==◌, ◌&&◌, ◌⊎◌, inl, inr, nat_lt, min, Bool, true, false, if◌then◌else◌, Decides, List, [], ◌∷◌, ◌++◌, Option, Some, None, refl, ap, subst, add-one, append_assoc, append-nil, arith}
use Rattle.std.proofs.lemmas.Bool.{false≢true}
use Rattle.std.proofs.lemmas.Bool.Decides.{Decides-and, Decides-at, Decides-like, Decides-or, nat_tests}
use Rattle.std.proofs.lemmas.List.Folds.{list_any-append}
use Rattle.std.specs.List.{list_any}
use Rattle.rh_words.specs.declared.shape.Part.{Part}
use Rattle.rh_words.specs.Parts.{cell_count}
use Rattle.rh_words.specs.declared.shape.Part.TheVariants.{Cell, Control, Length, EntryCell, EntryOld, EntryNew}
use Rattle.rh_words.specs.declared.shape.Shape.{Shape}
use Rattle.rh_draw.specs.Changes.{changed_cells, entry_cell, entry_cells, entry_count, has_succeeded, is_act, outcome, outcome_in}
use Rattle.rh_draw.specs.Changing.{Changes, EntryChanges}
use Rattle.rh_rule.specs.Represents.{word_at}
use Rattle.rh_tagword.specs.Control.{control_in}
use Rattle.rh_tagword.specs.declared.control.State.{State}
use Rattle.rh_tagword.specs.declared.control.State.TheVariants.{Undecided, Succeeded}
use Rattle.rh_recorder.specs.declared.recorder.Touched.{Touched}

abbrev pub is_listed : (cell : ℕ) → List ℕ → Bool
is_listed cell list = list_any (λ changed. changed == cell) list

never : {P : Type 0} → ¬ P → Decides false P
never fails = (λ e. absurd (false≢true e), λ p. absurd (fails p))

listed_if : (cell : ℕ) (test : Bool) (list : List ℕ) → is_listed cell (if test then list else []) ≡ (test && is_listed cell list)
listed_if cell true list = refl
listed_if cell false list = refl

-- ---- the entries of a row

listed_one : (new old target cell : ℕ) (same hit : Bool) → (new == old) ≡ same → (target == cell) ≡ hit →
    Decides (is_listed cell (if new == old then [] else target ∷ [])) ((target ≡ cell) × (new ≢ old))
listed_one new old target cell true hit eq at = rw eq (never (λ p. let same : new ≡ old = grind (arith, nat_tests) in p.1 same))
listed_one new old target cell false true eq at =
    let is : target ≡ cell = grind (arith, nat_tests) in
    let other : new ≢ old = grind (arith, nat_tests) in
    rw (eq, at) (λ e. (is, other), λ p. refl)
listed_one new old target cell false false eq at =
    let other : target ≢ cell = grind (arith, nat_tests) in
    rw (eq, at) (never (λ p. other p.0))

-- an entry that changes the cell, and one of those below a number
abbrev Here : Shape → (words : List ℕ) → (worker cell entry : ℕ) → Type 0
Here z words worker cell entry =
    (word_at z words (EntryCell worker entry) ≡ cell)
    × (word_at z words (EntryNew worker entry) ≢ word_at z words (EntryOld worker entry))

abbrev Below : Shape → (words : List ℕ) → (worker cell count : ℕ) → Type 0
Below z words worker cell count = (entry : ℕ) × (entry < count) × Here z words worker cell entry

below_or_here : (z : Shape) (words : List ℕ) (worker cell count entry : ℕ) (last : Bool) → (entry == count) ≡ last → entry < suc count →
    Here z words worker cell entry → Below z words worker cell count ⊎ Here z words worker cell count
below_or_here z words worker cell count entry true is lt here =
    let same : entry ≡ count = grind (arith, nat_tests) in
    inr (subst (λ (e : ℕ). Here z words worker cell e) same here)
below_or_here z words worker cell count entry false is lt here =
    let other : entry ≢ count = grind (arith, nat_tests) in
    inl (entry, omega arith, here)

listed_entries : (z : Shape) (words : List ℕ) (worker cell count : ℕ) →
    Decides (is_listed cell (entry_cells z words worker count)) (Below z words worker cell count)
listed_entries z words worker cell zero = never (λ p. let lt : p.0 < 0 = p.1 in omega arith)
listed_entries z words worker cell (suc count) =
    Decides-at _ _ (list_any-append (λ changed. changed == cell) (entry_cells z words worker count) (entry_cell z words worker count))
    (Decides-like _ to from (Decides-or _ _ (listed_entries z words worker cell count) here))
  where
    here : Decides (is_listed cell (entry_cell z words worker count)) (Here z words worker cell count)
    here = listed_one (word_at z words (EntryNew worker count)) (word_at z words (EntryOld worker count)) (word_at z words (EntryCell worker count)) cell _ _ refl refl

    to : Below z words worker cell count ⊎ Here z words worker cell count → Below z words worker cell (suc count)
    to (inl p) = let lt : p.0 < count = p.1 in (p.0, omega arith, p.2)
    to (inr p) = (count, omega arith, p)

    from : Below z words worker cell (suc count) → Below z words worker cell count ⊎ Here z words worker cell count
    from p = below_or_here z words worker cell count p.0 (p.0 == count) refl p.1 p.2

-- so does the code list them
if_other : (new old target : ℕ) (same : Bool) → (new == old) ≡ same → new ≢ old → (if new == old then [] else target ∷ []) ≡ target ∷ []
if_other new old target true is ne = let eq : new ≡ old = grind (arith, nat_tests) in absurd (ne eq)
if_other new old target false is ne = rw is refl

if_same : (new old target : ℕ) (same : Bool) → (new == old) ≡ same → new ≡ old → (if new == old then [] else target ∷ []) ≡ []
if_same new old target true is eq = rw is refl
if_same new old target false is eq = let ne : new ≢ old = grind (arith, nat_tests) in absurd (ne eq)

module _ (z : Shape) (words : List ℕ) (worker e : ℕ) (out items : List ℕ) (before : items ≡ out ++ entry_cells z words worker e) where
  pub one_listed : word_at z words (EntryNew worker e) ≢ word_at z words (EntryOld worker e) →
      items ++ (word_at z words (EntryCell worker e) ∷ []) ≡ out ++ entry_cells z words worker (e + 1)
  one_listed other =
      rw (add-one, if_other _ _ _ _ refl other, before) (append_assoc out (entry_cells z words worker e) (word_at z words (EntryCell worker e) ∷ []))

  pub none_listed : word_at z words (EntryNew worker e) ≡ word_at z words (EntryOld worker e) → items ≡ out ++ entry_cells z words worker (e + 1)
  none_listed same = rw (add-one, if_same _ _ (word_at z words (EntryCell worker e)) _ refl same, append-nil) before

-- ---- a step

abbrev IsReadAs : Option (ℕ × State) → State → Type 0
IsReadAs control state = (serial : ℕ) × (control ≡ Some (serial, state))

abbrev AreReadAsAct : (found left : Option (ℕ × State)) → Type 0
AreReadAsAct found left = IsReadAs found Undecided × IsReadAs left Succeeded

abbrev state_at : Option (ℕ × State) → Option State
state_at None = None
state_at (Some control) = Some control.1

acts_at : (s t : ℕ) (one other : State) → Decides (has_succeeded (outcome one other)) (AreReadAsAct (Some (s, one)) (Some (t, other)))
acts_at s t Undecided Succeeded = (λ e. ((s, refl), (t, refl)), λ p. refl)
acts_at s t one other = never (λ p. let found = ap state_at p.0.1 in let left = ap state_at p.1.1 in cc)

acts : (found left : Option (ℕ × State)) → Decides (has_succeeded (outcome_in found left)) (AreReadAsAct found left)
acts None left = never (λ p. let e = p.0.1 in cc)
acts (Some found) None = never (λ p. let e = p.1.1 in cc)
acts (Some found) (Some left) = acts_at found.0 left.0 found.1 left.1

abbrev touch : Part → (found left : ℕ) → Touched
touch part found left = record { part = part; found = found; left = left }

no_change : (z : Shape) (words : List ℕ) (touched : Touched) (cell : ℕ) → ((c : ℕ) → touched.part ≢ Cell c) →
    ((worker : ℕ) → touched.part ≢ Control worker) → Decides false (Changes z words touched cell)
no_change z words touched cell no_cell no_control =
    never (λ h. elim h [ inl word ↦ no_cell cell word.part | inr value ↦ no_control value.worker value.succeeds.part ])

-- a row that the table does not have has no entry
is_known : (z : Shape) (worker entry count : ℕ) (test : Bool) → nat_lt worker z.workers ≡ test → entry < (if test then count else 0) →
    (worker < z.workers) × (entry < count)
is_known z worker entry count true is lt = (grind (arith, nat_tests), lt)
is_known z worker entry count false is lt = omega arith

listed_at : (z : Shape) (words : List ℕ) (cell : ℕ) (part : Part) (found left : ℕ) →
    Decides (is_listed cell (changed_cells z words (touch part found left))) (Changes z words (touch part found left) cell)
listed_at z words cell (Cell c) found left = Decides-like _ to from (listed_one left found c cell _ _ refl refl)
  where
    to : (c ≡ cell) × (left ≢ found) → Changes z words (touch (Cell c) found left) cell
    to p = inl (record { part = ap Cell p.0; word = p.1 })

    from : Changes z words (touch (Cell c) found left) cell → (c ≡ cell) × (left ≢ found)
    from (inl word) = let e = word.part in let is : c ≡ cell = cc in (is, word.word)
    from (inr value) = let e = value.succeeds.part in absurd (cc)
listed_at z words cell (Control worker) found left =
    Decides-at _ _ (listed_if cell (is_act (touch (Control worker) found left)) (entry_cells z words worker (entry_count z words worker)))
    (Decides-like _ to from (Decides-and _ _ (acts (control_in found) (control_in left)) (listed_entries z words worker cell (entry_count z words worker))))
  where
    to : AreReadAsAct (control_in found) (control_in left) × Below z words worker cell (entry_count z words worker) →
        Changes z words (touch (Control worker) found left) cell
    to p =
        let here = is_known z worker p.1.0 (min (word_at z words (Length worker)) (cell_count z)) (nat_lt worker z.workers) refl p.1.1 in
        let both : p.1.0 < min (word_at z words (Length worker)) (cell_count z) = here.1 in
        inr (record {
          worker = worker;
          succeeds = record { part = refl; known = here.0; found = p.0.0; left = p.0.1 };
          entry = p.1.0;
          changes = record { counts = omega arith; fits = omega arith; target = p.1.2.0; other = p.1.2.1 };
        })

    from : Changes z words (touch (Control worker) found left) cell →
        AreReadAsAct (control_in found) (control_in left) × Below z words worker cell (entry_count z words worker)
    from (inl word) = let e = word.part in absurd (cc)
    from (inr value) =
        let e = value.succeeds.part in
        let same : value.worker ≡ worker = cc in
        let known : worker < z.workers = subst (λ (w : ℕ). w < z.workers) same value.succeeds.known in
        let its : EntryChanges z words worker value.entry cell =
        subst (λ (w : ℕ). EntryChanges z words w value.entry cell) same value.changes in
        let counts : value.entry < word_at z words (Length worker) = its.counts in
        let fits : value.entry < cell_count z = its.fits in
        ((value.succeeds.found, value.succeeds.left), (value.entry, grind (arith, nat_tests), (its.target, its.other)))
listed_at z words cell part found left = no_change z words _ cell (λ c e. cc) (λ worker e. cc)

pub listed : (z : Shape) (words : List ℕ) (cell : ℕ) (touched : Touched) →
    Decides (is_listed cell (changed_cells z words touched)) (Changes z words touched cell)
listed z words cell touched = listed_at z words cell touched.part touched.found touched.left
