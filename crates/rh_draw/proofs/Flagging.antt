-- The flags of the columns, record by record: those of the cells that change.
use Rattle.std.proofs.Common.{◌≡◌, ◌≢◌, ℕ, ◌+◌, ◌<◌, ◌≤◌, ◌==◌, ◌||◌, ◌⊎◌, ◌↔◌, inl, inr, Bool, true, false, if◌then◌else◌, Decides, List, [], ◌∷◌, ◌++◌, length, get_or, set, slice_index, drop, drop-cons, refl, sym, ap, ◌∙◌, subst, add-one, arith}
use Rattle.std.proofs.lemmas.Bool.{false≢true}
use Rattle.std.proofs.lemmas.Bool.Decides.{nat_tests}
use Rattle.std.proofs.lemmas.Grind.{common_steps, get_or-set_at}
use Rattle.std.proofs.lemmas.List.{get_or-set_other, length-set}
use Rattle.rh_words.specs.declared.shape.Shape.{Shape}
use Rattle.rh_draw.proofs.Changed.{is_listed, listed}
use Rattle.rh_draw.specs.Changes.{changed_cells, set_all}
use Rattle.rh_draw.specs.Changing.{Changes, IsChanged, IsWithin, LeaveAll, Leaves}
use Rattle.rh_draw.specs.Columns.{Flags, FlagsStep}
use Rattle.rh_draw.specs.Records.{is_drawn}
use Rattle.rh_draw.specs.declared.records.Record.{Record}
use Rattle.rh_draw.specs.declared.records.Record.TheVariants.{Step, Round}
use Rattle.rh_draw.specs.declared.records.Window.{Window}
use Rattle.rh_trace.specs.declared.traced.Traced.{Traced}

-- ---- one step

-- one place that was written
one_place : (list : List ℕ) (place cell : ℕ) (test : Bool) → (place == cell) ≡ test → cell < length list →
    get_or (set list place 1) cell 0 ≡ (if test then 1 else get_or list cell 0)
one_place list place cell true same lt = let eq : cell ≡ place = grind (arith, nat_tests) in get_or-set_at list place cell 1 0 eq (omega arith)
one_place list place cell false other lt = let ne : cell ≢ place = grind (arith, nat_tests) in get_or-set_other list place cell 1 0 ne

either : (one more : Bool) (found : ℕ) → (if more then 1 else (if one then 1 else found)) ≡ (if (one || more) then 1 else found)
either true true found = refl
either true false found = refl
either false true found = refl
either false false found = refl

index-set_all : (list places : List ℕ) (cell : ℕ) → cell < length list →
    get_or (set_all list places 1) cell 0 ≡ (if is_listed cell places then 1 else get_or list cell 0)
index-set_all list [] cell lt = refl
index-set_all list (place ∷ more) cell lt =
    let within : cell < length (set list place 1) = omega (arith, length-set list place 1) in
    rw (index-set_all (set list place 1) more cell within, one_place list place cell (place == cell) refl lt)
    (either (place == cell) (is_listed cell more) (get_or list cell 0))

drawn : (window : Window) (number : ℕ) → Decides (is_drawn window number) (IsWithin window number)
drawn window number = (λ e. (grind (arith, nat_tests), grind (arith, nat_tests)), λ p. grind (arith, nat_tests))

pub flagged : (z : Shape) (window : Window) (words flags : List ℕ) (step : Traced) → is_drawn window step.number ≡ true →
    FlagsStep z window words step flags (set_all flags (changed_cells z words step.touched) 1)
flagged z window words flags step within cell lt =
    by_test (is_listed cell list) (listed z words cell step.touched) (index-set_all flags list cell lt)
  where
    list : List ℕ
    list = changed_cells z words step.touched

    by_test : (test : Bool) → Decides test (Changes z words step.touched cell) →
        slice_index (set_all flags list 1) cell ≡ (if test then 1 else slice_index flags cell) →
        ((IsWithin window step.number × Changes z words step.touched cell) × (slice_index (set_all flags list 1) cell ≡ 1))
        ⊎ (¬ (IsWithin window step.number × Changes z words step.touched cell)
        × (slice_index (set_all flags list 1) cell ≡ slice_index flags cell))
    by_test true changes is = inl (((drawn window step.number).0 within, changes.0 refl), is)
    by_test false changes is = inr (λ p. false≢true (changes.1 p.1), is)

pub unflagged : (z : Shape) (window : Window) (words flags : List ℕ) (step : Traced) → is_drawn window step.number ≡ false →
    FlagsStep z window words step flags flags
unflagged z window words flags step without cell lt = inr (λ p. false≢true (sym without ∙ (drawn window step.number).1 p.0), refl)

-- ---- the first record, and those after it

in_none : (before : List Record) (step : Traced) (after : List Record) → [] ≢ before ++ (Step step ∷ after)
in_none [] step after e = cc
in_none (first ∷ rest) step after e = cc

module _ (z : Shape) (window : Window) (cell : ℕ) (words : List ℕ) where
  past_round : (next : ℕ) (more before : List Record) (step : Traced) (after : List Record) (left : List ℕ) →
      Round next ∷ more ≡ before ++ (Step step ∷ after) → IsWithin window step.number → LeaveAll z words before left →
      Changes z left step.touched cell → IsChanged z words more window cell
  past_round next more [] step after left e within leave changes = absurd (cc)
  past_round next more (Step first ∷ rest) step after left e within leave changes = absurd (cc)
  past_round next more (Round first ∷ rest) step after left e within leave changes =
      let tail : more ≡ rest ++ (Step step ∷ after) = cc in
      record { before = rest; step = step; after = after; splits = tail; within = within; words = left; left = leave; changes = changes }

  after_round : (next : ℕ) (more : List Record) → IsChanged z words (Round next ∷ more) window cell → IsChanged z words more window cell
  after_round next more h = past_round next more h.before h.step h.after h.words h.splits h.within h.left h.changes

  with_round : (next : ℕ) (more : List Record) → IsChanged z words more window cell → IsChanged z words (Round next ∷ more) window cell
  with_round next more h = record {
    before = Round next ∷ h.before;
    step = h.step;
    after = h.after;
    splits = ap (λ (records : List Record). Round next ∷ records) h.splits;
    within = h.within;
    words = h.words;
    left = h.left;
    changes = h.changes;
  }

  module _ (made : Traced) (more : List Record) (there : List ℕ) where
    abbrev Now : Type 0
    Now = IsWithin window made.number × Changes z words made.touched cell

    past_step : (before : List Record) (step : Traced) (after : List Record) (left : List ℕ) →
        ((other : List ℕ) → Leaves z words made.touched other → other ≡ there) →
        Step made ∷ more ≡ before ++ (Step step ∷ after) → IsWithin window step.number → LeaveAll z words before left →
        Changes z left step.touched cell → Now ⊎ IsChanged z there more window cell
    past_step [] step after left alone e within leave changes =
        let same : step ≡ made = cc in
        let here : Changes z words step.touched cell = subst (λ (w : List ℕ). Changes z w step.touched cell) leave changes in
        inl (subst (λ (s : Traced). IsWithin window s.number × Changes z words s.touched cell) same (within, here))
    past_step (Round first ∷ rest) step after left alone e within leave changes = absurd (cc)
    past_step (Step first ∷ rest) step after left alone e within leave changes =
        let same : first ≡ made = cc in
        let tail : more ≡ rest ++ (Step step ∷ after) = cc in
        let leaves : Leaves z words made.touched leave.0 = subst (λ (s : Traced). Leaves z words s.touched leave.0) same leave.1 in
        let before : LeaveAll z there rest left = subst (λ (w : List ℕ). LeaveAll z w rest left) (alone leave.0 leaves) leave.2 in
        inr (record { before = rest; step = step; after = after; splits = tail; within = within; words = left; left = before; changes = changes })

    after_step : ((other : List ℕ) → Leaves z words made.touched other → other ≡ there) → IsChanged z words (Step made ∷ more) window cell →
        Now ⊎ IsChanged z there more window cell
    after_step alone h = past_step h.before h.step h.after h.words alone h.splits h.within h.left h.changes

    at_step : Now → IsChanged z words (Step made ∷ more) window cell
    at_step p = record { before = []; step = made; after = more; splits = refl; within = p.0; words = words; left = refl; changes = p.1 }

    with_step : Leaves z words made.touched there → IsChanged z there more window cell → IsChanged z words (Step made ∷ more) window cell
    with_step leaves h = record {
      before = Step made ∷ h.before;
      step = h.step;
      after = h.after;
      splits = ap (λ (records : List Record). Step made ∷ records) h.splits;
      within = h.within;
      words = h.words;
      left = (there, leaves, h.left);
      changes = h.changes;
    }

-- ---- all records

module _ (z : Shape) (window : Window) (first : List ℕ) (given : List Record) (n : ℕ) where
  -- Of each cell, by the words and the flags so far: it changes, and is flagged; or it is not, and changes where the rest changes it.
  abbrev pub AreFlagged : (words flags : List ℕ) → (rest : List Record) → Type 0
  AreFlagged words flags rest =
      (cell : ℕ) → cell < n →
      (IsChanged z first given window cell × (slice_index flags cell ≡ 1))
      ⊎ ((IsChanged z first given window cell ↔ IsChanged z words rest window cell) × (slice_index flags cell ≡ 0))

  pub none_flagged : (flags : List ℕ) → ((cell : ℕ) → slice_index flags cell ≡ 0) → AreFlagged first flags given
  none_flagged flags none cell lt = inr ((λ h. h, λ h. h), none cell)

  pub turned : (words flags : List ℕ) (i : ℕ) (d next : Record) → i < length given → get_or given i d ≡ next →
      AreFlagged words flags (drop i given) → AreFlagged words flags (next ∷ drop (i + 1) given)
  turned words flags i d next lt is before = rw (add-one, ← is) (rw (drop-cons given i d lt) at before)

  pub by_round : (words flags : List ℕ) (next : ℕ) (more : List Record) → AreFlagged words flags (Round next ∷ more) → AreFlagged words flags more
  by_round words flags next more before cell lt =
      elim (before cell lt) [
        | inl p ↦ inl p
        | inr p ↦ inr ((λ h. after_round z window cell words next more (p.0.0 h), λ h. p.0.1 (with_round z window cell words next more h)), p.1)
      ]

  pub by_step : (words there flags new : List ℕ) (made : Traced) (more : List Record) → length flags ≡ n → Leaves z words made.touched there →
      ((other : List ℕ) → Leaves z words made.touched other → other ≡ there) → FlagsStep z window words made flags new →
      AreFlagged words flags (Step made ∷ more) → AreFlagged there new more
  by_step words there flags new made more long leaves alone flags_it before cell lt = cases (flags_it cell (rw long lt)) (before cell lt)
    where
      past : ¬ Now z window cell words made more there → Now z window cell words made more there ⊎ IsChanged z there more window cell → IsChanged z there more window cell
      past other (inl now) = absurd (other now)
      past other (inr later) = later

      cases : (Now z window cell words made more there × (slice_index new cell ≡ 1))
          ⊎ (¬ Now z window cell words made more there × (slice_index new cell ≡ slice_index flags cell)) →
          (IsChanged z first given window cell × (slice_index flags cell ≡ 1))
          ⊎ ((IsChanged z first given window cell ↔ IsChanged z words (Step made ∷ more) window cell) × (slice_index flags cell ≡ 0)) →
          (IsChanged z first given window cell × (slice_index new cell ≡ 1))
          ⊎ ((IsChanged z first given window cell ↔ IsChanged z there more window cell) × (slice_index new cell ≡ 0))
      cases (inl now) (inl p) = inl (p.0, now.1)
      cases (inl now) (inr p) = inl (p.0.1 (at_step z window cell words made more there now.0), now.1)
      cases (inr other) (inl p) = inl (p.0, other.1 ∙ p.1)
      cases (inr other) (inr p) = inr (
        (
          λ h. past other.0 (after_step z window cell words made more there alone (p.0.0 h)),
          λ h. p.0.1 (with_step z window cell words made more there leaves h),
        ),
        other.1 ∙ p.1,
      )

  pub all_flagged : (words flags : List ℕ) (i : ℕ) → length given ≤ i → AreFlagged words flags (drop i given) → (cell : ℕ) → cell < n →
      Flags (slice_index flags cell) (IsChanged z first given window cell)
  all_flagged words flags i past before cell lt =
      let none : drop i given ≡ [] = grind (arith, common_steps) in
      elim ((rw none at before) cell lt) [
        | inl p ↦ inl p
        | inr p ↦ inr (λ h. let last = p.0.0 h in in_none last.before last.step last.after last.splits, p.1)
      ]
