-- A control that was read or swapped, and what is noted of its descriptor.
use Rattle.std.proofs.Common.{◌≡◌, ◌≢◌, ℕ, suc, ◌<◌, eqb, Bool, true, false, true≢false, cond, ◌||◌, ◌&&◌, ◌⊎◌, List, [], ◌∷◌, filter, not, Option, Some, None, sym, refl, ap, ◌∙◌, subst, inl, inr, ⊎_elim, arith, eq-eqb}
use Rattle.std.specs.Prelude.{option_map}
use Rattle.rh_tagword.specs.Control.{IsState, is_decided}
use Rattle.rh_tagword.specs.declared.control.State.{State}
use Rattle.rh_tagword.specs.declared.control.State.TheVariants.{Unused, Undecided, Succeeded, Withdrawn, Failed}
use Rattle.rh_world.specs.World.{Control as WorldControl, In, IsDecided, IsOpened, Ref, is_ref}
use Rattle.rh_world.specs.World.Control.{failed, succeeded, undecided, unused, withdrawn}
use Rattle.rh_world.specs.Facts.{Fact}
use Rattle.rh_world.specs.Facts.Fact.{decided, known, may_demote, may_promote, met, over, stale}
use Rattle.rh_world.specs.Sides.{Debt, Side, note_side}
use Rattle.rh_world.specs.Moves.{control_noted, mark_noted}
use Rattle.rh_world.proofs.Tests.{by_cond, eqb_not, eqb_yes}
use Rattle.rh_words.specs.View.{OwnDesc, View}
use Rattle.rh_words.specs.Words.{control_of, control_word_of, read_control, serial_in, state_of, without_entry}
use Rattle.rh_words.specs.Steps.{IsKnown, control_read, decided_word, stale_noted, is_known, mark_control_read, tells_opened}
use Rattle.rh_rule.specs.Sound.{ControlTells, IsControlWord}
use Rattle.rh_rule.proofs.Said.{control_said_is, serial_said_is}
use Rattle.rh_carrier.specs.Own.{KnowsOwn}
use Rattle.rh_helping.specs.Goal.{IsAfterFailures, IsMet, IsOther, StandsAt}
use Rattle.rh_helping.specs.CellContent.{state_said}
use Rattle.rh_helping.specs.Settling.{FailsNone, Keeps}
use Rattle.rh_helping.specs.Work.{IsOver}
use Rattle.rh_helping.proofs.Growing.{met_sub}
use Rattle.rh_helping.proofs.Sides.{DecidesNone, none_control, none_note, none_then, tells_decided}

-- ---- decided states

pub over_decided : (k : State) → IsOver k → IsDecided (control_of k)
over_decided Unused o = o
over_decided _ o = o

pub decided_over : (k : State) → IsDecided (control_of k) → IsOver k
decided_over Unused o = o
decided_over _ o = o

pub is_decided_over : (k : State) → is_decided k ≡ true → IsOver k
is_decided_over Unused e = absurd (true≢false (sym e))
is_decided_over Undecided e = absurd (true≢false (sym e))
is_decided_over _ e = tt

abbrev tells_undecided : WorldControl → Bool
tells_undecided undecided = true
tells_undecided _ = false

abbrev tells_used : WorldControl → Bool
tells_used unused = false
tells_used _ = true

abbrev is_undecided : State → Bool
is_undecided Undecided = true
is_undecided _ = false

pub over_not : (k : State) → IsOver k → k ≢ Undecided
over_not Unused o e = o
over_not Undecided o e = o
over_not _ o e = true≢false (sym (ap is_undecided e))

pub opened_over : (k : State) → IsOpened (control_of k) → k ≢ Undecided → IsOver k
opened_over Unused o ne = o refl
opened_over Undecided o ne = ne refl
opened_over _ o ne = tt

pub stands_undecided : (l : List Fact) (d : Ref) (k : State) (e : ℕ) → StandsAt l d k e → is_decided k ≡ false → k ≡ Undecided
stands_undecided l d Unused e h no_ = absurd h
stands_undecided l d Undecided e h no_ = refl
stands_undecided l d _ e h no_ = absurd (true≢false no_)

abbrev state_or : State → Option State → State
state_or other None = other
state_or other (Some k) = k

pub some_state : (k q : State) → Some k ≡ Some q → k ≡ q
some_state k q e = ap (state_or k) e

-- ---- what a control word tells of a descriptor that is known

is_ref_self : (d : Ref) → is_ref d d ≡ true
is_ref_self d = ap (λ (b : Bool). b && eqb d.number d.number) (eq-eqb d.worker d.worker refl) ∙ eq-eqb d.number d.number refl

known_is : (ns : List Fact) (d : Ref) → IsKnown ns d → is_known ns d ≡ true
known_is [] d h = absurd (⊎_elim (⊎_elim (λ i. i) (λ q. q.1)) (λ i. i) h)
known_is (n ∷ ns) d h = ⊎_elim (⊎_elim
    (λ i. ⊎_elim (said (known d) (is_ref_self d)) (λ j. there (known_is ns d (inl (inl j)))) i)
    (λ q. ⊎_elim (said (decided d q.0) (is_ref_self d)) (λ j. there (known_is ns d (inl (inr (q.0, j))))) q.1))
    (λ i. ⊎_elim (said (met d) (is_ref_self d)) (λ j. there (known_is ns d (inr j))) i) h
  where
    said : (m : Fact) → tells_opened m d ≡ true → m ≡ n → (tells_opened n d || is_known ns d) ≡ true
    said m so e = ap (λ (b : Bool). b || is_known ns d) (ap (λ (k : Fact). tells_opened k d) (sym e) ∙ so)

    or_true : (b : Bool) → (b || true) ≡ true
    or_true true = refl
    or_true false = refl

    there : is_known ns d ≡ true → (tells_opened n d || is_known ns d) ≡ true
    there e = ap (λ (b : Bool). tells_opened n d || b) e ∙ or_true (tells_opened n d)

abbrev pub said_side : Side → Ref → Option WorldControl → Side
said_side s d None = stale_noted s d
said_side s d (Some k) = control_noted s d k

said_side_is : (s : Side) (d : Ref) (word : ℕ) → is_known s.facts d ≡ true → control_read s d word ≡ said_side s d (state_said d.number word)
said_side_is s d word is = by (eqb (serial_in word) d.number)
  where
    by : (b : Bool) → cond b (control_noted s d (read_control word)) (cond (is_known s.facts d) (stale_noted s d) s)
        ≡ said_side s d (cond b (Some (read_control word)) None)
    by true = refl
    by false = ap (λ (c : Bool). cond c (stale_noted s d) s) is

abbrev pub mark_said_side : Side → (x : Ref) → (c : ℕ) → (d : Ref) → Option WorldControl → Side
mark_said_side s x c d None = note_side (stale_noted s d) (may_demote x)
mark_said_side s x c d (Some k) = mark_noted (control_noted s d k) x c k

mark_said_side_is : (s : Side) (x : Ref) (c : ℕ) (d : Ref) (word : ℕ) → mark_control_read s x c d word ≡ mark_said_side s x c d (state_said d.number word)
mark_said_side_is s x c d word = by (eqb (serial_in word) d.number)
  where
    by : (b : Bool) → cond b (mark_noted (control_noted s d (read_control word)) x c (read_control word)) (note_side (stale_noted s d) (may_demote x))
        ≡ mark_said_side s x c d (cond b (Some (read_control word)) None)
    by true = refl
    by false = refl

abbrev said_or : (other : WorldControl) → Option WorldControl → WorldControl
said_or other None = other
said_or other (Some k) = k

said_some : (n word : ℕ) (k : WorldControl) → Some k ≡ state_said n word → (serial_in word ≡ n) × (k ≡ read_control word)
said_some n word k = by (eqb (serial_in word) n) refl
  where
    by : (b : Bool) → eqb (serial_in word) n ≡ b → Some k ≡ cond b (Some (read_control word)) None → (serial_in word ≡ n) × (k ≡ read_control word)
    by true e is = (eqb_yes (serial_in word) n e, ap (said_or k) is)
    by false e is = absurd (no_some k is)
      where
        no_some : (k : WorldControl) → Some k ≡ None → ⊥
        no_some k e = true≢false (ap (λ (o : Option WorldControl). is_some o) e)
          where
            is_some : Option WorldControl → Bool
            is_some None = false
            is_some (Some q) = true

said_none : (n word : ℕ) → None ≡ state_said n word → serial_in word ≢ n
said_none n word is e = true≢false (sym (ap is_some (is ∙ ap (λ (b : Bool). cond {A = Option WorldControl} b (Some (read_control word)) None) (eq-eqb (serial_in word) n e))))
  where
    is_some : Option WorldControl → Bool
    is_some None = false
    is_some (Some q) = true

-- ---- what is so after a control was seen

abbrev pub debts_said : List Debt → Ref → Option State → List Debt
debts_said debts d (Some Undecided) = filter (λ q. not (is_ref q.desc d)) debts
debts_said debts d _ = debts

abbrev pub AsSaid : View → Ref → Option State → Type 0
AsSaid next d None = In (over d) next.side.facts × In (stale d) next.side.facts
AsSaid next d (Some k) = IsMet next d k 0

-- the control said this of d
pub record Saw (v : View) (d : Ref) (r : Option State) (next : View) : Type 0 where
  pub keeps : Keeps v next
  pub marks_used : next.marks_used ≡ v.marks_used
  pub opened : next.opened ≡ v.opened
  pub written : next.written ≡ v.written
  pub current : next.side.current ≡ v.side.current
  pub released : next.side.released ≡ v.side.released
  pub unsettled : next.side.unsettled ≡ v.side.unsettled
  pub debts : next.side.debts ≡ debts_said v.side.debts d r
  pub reads : next.side.reads ≡ v.side.reads
  pub claims : next.side.claims ≡ v.side.claims
  pub said : AsSaid next d r

-- by what is known of it
abbrev Known : View → Ref → Option State → Type 0
Known v d None = Unit {0}
Known v d (Some k) = IsOpened (control_of k) × (k ≡ Undecided → IsAfterFailures v d) × (d.worker ≡ v.worker → suc d.number ≡ v.next_number)

no_entry_before : (A : Type 0) (f : ℕ) → f < 0 → A
no_entry_before A f lt = absurd (let h : ⊥ = omega arith in h)

module _ (v : View) (d : Ref) (c : ℕ) where
  abbrev pub said_view : Option State → View
  said_view r = record v { side = said_side v.side d (option_map control_of r); control = c }

  met_decided : (k : State) → IsOver k → StandsAt (said_view (Some k)).side.facts d k 0 → (d.worker ≡ v.worker → suc d.number ≡ v.next_number) → IsMet (said_view (Some k)) d k 0
  met_decided k o stands last = record { stands = stands; fresh = λ u. absurd (over_not k o u); last = last }

  abbrev noted_view : Option State → List Fact → View
  noted_view r facts = record v { side = record v.side { facts = facts; debts = debts_said v.side.debts d r }; control = c }

  saw_noted : (r : Option State) (facts : List Fact) → ((n : Fact) → In n v.side.facts → In n facts) → AsSaid (noted_view r facts) d r
      → Saw v d r (noted_view r facts)
  saw_noted r facts more said = record {
    keeps = record { worker = refl; next_number = refl; facts = more };
    marks_used = refl;
    opened = refl;
    written = refl;
    current = refl;
    released = refl;
    unsettled = refl;
    debts = refl;
    reads = refl;
    claims = refl;
    said = said;
  }

  saw : (r : Option State) → Known v d r → Saw v d r (said_view r)
  saw None h = saw_noted None (stale d ∷ over d ∷ v.side.facts) (λ n i. inr (inr i)) (inr (inl refl), inl refl)
  saw (Some Unused) h = absurd (h.0 refl)
  saw (Some Undecided) h = saw_noted (Some Undecided) (known d ∷ v.side.facts) (λ n i. inr i) (record {
    stands = (inl refl, λ f lt. no_entry_before _ f lt);
    fresh = λ u f same i. h.1 u f same (none_note (failed 0 v.worker) (known d) v.side.facts refl f i);
    last = h.2;
  })
  saw (Some Succeeded) h = saw_noted (Some Succeeded) (decided d succeeded ∷ v.side.facts) (λ n i. inr i) (met_decided Succeeded tt (inl refl) h.2)
  saw (Some Withdrawn) h = saw_noted (Some Withdrawn) (decided d withdrawn ∷ v.side.facts) (λ n i. inr i) (met_decided Withdrawn tt (inl refl) h.2)
  saw (Some (Failed by)) h = saw_noted (Some (Failed by)) (decided d (failed 0 by) ∷ v.side.facts) (λ n i. inr i) (met_decided (Failed by) tt (inl refl) h.2)

-- and one thing more is noted, that is no decision
saw_more : (v : View) (d : Ref) (r : Option State) (next : View) (n : Fact) → tells_decided n ≡ false → Saw v d r next → Saw v d r (record next { side = note_side next.side n })
saw_more v d r next n other h = record {
  keeps = record { worker = h.keeps.worker; next_number = h.keeps.next_number; facts = λ m i. inr (h.keeps.facts m i) };
  marks_used = h.marks_used;
  opened = h.opened;
  written = h.written;
  current = h.current;
  released = h.released;
  unsettled = h.unsettled;
  debts = h.debts;
  reads = h.reads;
  claims = h.claims;
  said = more r h.said;
}
  where
    then : View
    then = record next { side = note_side next.side n }

    more : (r : Option State) → AsSaid next d r → AsSaid then d r
    more None h = (inr h.0, inr h.1)
    more (Some k) h = met_sub next then (record { worker = refl; next_number = refl; facts = λ m i. inr i }) (none_note (failed 0 next.worker) n next.side.facts other) d k 0 h

-- ---- by the word that was read

module _ (v : View) (d : Ref) (word : ℕ) (tells : ControlTells v d word) where
  tells_known : (r : Option State) → option_map control_of r ≡ state_said d.number word → Known v d r
  tells_known None is = tt
  tells_known (Some k) is =
      let q = said_some d.number word (control_of k) is in
      let t = tells.tells q.0 in
      (subst IsOpened (sym q.1) t.opened, (λ u f same i. t.older (sym q.1 ∙ ap control_of u) f same i), t.newest)

  -- who decided it, if this worker did, noted so
  tells_had : (r : Option State) → option_map control_of r ≡ state_said d.number word → DecidesNone (failed 0 v.worker) v.side.facts (said_side v.side d (option_map control_of r)).facts
  tells_had None is = none_then (failed 0 v.worker) v.side.facts (over d ∷ v.side.facts) (stale d ∷ over d ∷ v.side.facts)
      (none_note (failed 0 v.worker) (over d) v.side.facts refl) (none_note (failed 0 v.worker) (stale d) (over d ∷ v.side.facts) refl)
  tells_had (Some k) is =
      let q = said_some d.number word (control_of k) is in
      none_control (failed 0 v.worker) v.side d (control_of k) (λ e. (tells.tells q.0).noted 0 (sym q.1 ∙ e))

  -- a stale own one is not open
  pub tells_other : (opens : Option OwnDesc) → KnowsOwn v opens → (r : Option State) → option_map control_of r ≡ state_said d.number word → r ≡ None → IsOther v d
  tells_other opens own r is none mine current =
      said_none d.number word (sym (ap (λ (o : Option State). option_map control_of o) none) ∙ is) (tells.stays mine (own.last d.number current))

  module _ (r : Option State) (is : option_map control_of r ≡ state_said d.number word) (c : ℕ) (next : View) where
    pub saw_control : IsKnown v.side.facts d → next ≡ record v { side = control_read v.side d word; control = c } → Saw v d r next × FailsNone v next
    saw_control opened next_is =
        let side_is : control_read v.side d word ≡ said_side v.side d (option_map control_of r) = said_side_is v.side d word (known_is v.side.facts d opened) ∙ ap (said_side v.side d) (sym is) in
        subst (λ (x : View). Saw v d r x × FailsNone v x) (sym (next_is ∙ ap (λ (s : Side). record v { side = s; control = c }) side_is))
        (saw v d c r (tells_known r is), tells_had r is)

-- ---- of a mark's descriptor

abbrev pub MarkedAs : View → (x : Ref) → (c : ℕ) → Option State → Type 0
MarkedAs next x c (Some Unused) = ⊥
MarkedAs next x c (Some Undecided) = In (may_promote x c) next.side.facts
MarkedAs next x c _ = In (may_demote x) next.side.facts

pub marked_demotes : (next : View) (x : Ref) (c : ℕ) (r : Option State) → MarkedAs next x c r → r ≢ Some Undecided → In (may_demote x) next.side.facts
marked_demotes next x c (Some Unused) h ne = absurd h
marked_demotes next x c (Some Undecided) h ne = absurd (ne refl)
marked_demotes next x c _ h ne = h

module _ (v : View) (x d : Ref) (at c : ℕ) where
  abbrev pub marked_view : Option State → View
  marked_view r = record v { side = mark_said_side v.side x at d (option_map control_of r); control = c }

  abbrev Marked : Option State → View → Type 0
  Marked r next = Saw v d r next × FailsNone v next × MarkedAs next x at r

  marked_note : (r : Option State) (n : Fact) → tells_decided n ≡ false → DecidesNone (failed 0 v.worker) v.side.facts (said_side v.side d (option_map control_of r)).facts → Known v d r
      → MarkedAs (record (said_view v d c r) { side = note_side (said_view v d c r).side n }) x at r → Marked r (record (said_view v d c r) { side = note_side (said_view v d c r).side n })
  marked_note r n other none h so = (
    saw_more v d r (said_view v d c r) n other (saw v d c r h),
    none_then (failed 0 v.worker) v.side.facts (said_view v d c r).side.facts (n ∷ (said_view v d c r).side.facts) none (none_note (failed 0 v.worker) n (said_view v d c r).side.facts other),
    so,
  )

  marked : (r : Option State) → DecidesNone (failed 0 v.worker) v.side.facts (said_side v.side d (option_map control_of r)).facts → Known v d r → Marked r (marked_view r)
  marked None none h = marked_note None (may_demote x) refl none h (inl refl)
  marked (Some Unused) none h = absurd (h.0 refl)
  marked (Some Undecided) none h = marked_note (Some Undecided) (may_promote x at) refl none h (inl refl)
  marked (Some Succeeded) none h = marked_note (Some Succeeded) (may_demote x) refl none h (inl refl)
  marked (Some Withdrawn) none h = marked_note (Some Withdrawn) (may_demote x) refl none h (inl refl)
  marked (Some (Failed by)) none h = marked_note (Some (Failed by)) (may_demote x) refl none h (inl refl)

  pub saw_mark_control : (word : ℕ) → ControlTells v d word → (r : Option State) → option_map control_of r ≡ state_said d.number word
      → (next : View) → next ≡ record v { side = mark_control_read v.side x at d word; control = c } → Marked r next
  saw_mark_control word tells r is next next_is =
      let side_is : mark_control_read v.side x at d word ≡ mark_said_side v.side x at d (option_map control_of r) = mark_said_side_is v.side x at d word ∙ ap (mark_said_side v.side x at d) (sym is) in
      subst (Marked r) (sym (next_is ∙ ap (λ (s : Side). record v { side = s; control = c }) side_is))
      (marked r (tells_had v d word tells r is) (tells_known v d word tells r is))

-- ---- after a swap from undecided to k

without : (k : State) → without_entry (control_of k) ≡ control_of k
without Unused = refl
without _ = refl

state_back : (k : State) → state_of (control_of k) ≡ k
state_back Unused = refl
state_back _ = refl

undecided_without : (c : WorldControl) → without_entry c ≡ undecided → c ≡ undecided
undecided_without (failed i by) e = absurd (true≢false (sym (ap tells_undecided e)))
undecided_without _ e = e

-- a control word that tells that d is undecided is this one
undecided_word : (word n : ℕ) → IsControlWord word → serial_in word ≡ n → read_control word ≡ undecided → word ≡ control_word_of n undecided
undecided_word word n w serial is =
    let number : w.number ≡ n = sym (serial_said_is w.number w.control w.state) ∙ ap serial_in (sym w.is) ∙ serial in
    let control : w.control ≡ undecided = undecided_without w.control (sym (control_said_is w.number w.control w.state) ∙ ap read_control (sym w.is) ∙ is) in
    w.is ∙ (λ i. control_word_of (number i) (control i))

module _ (v : View) (d : Ref) (k : State) (over_k : IsOver k) (state : IsState k) (found : ℕ) (tells : ControlTells v d found) where
  abbrev word : ℕ
  word = decided_word d (control_of k) found

  has_state : IsState (state_of (control_of k))
  has_state = subst IsState (sym (state_back k)) state

  pub is_word : IsControlWord word
  is_word = by_cond IsControlWord (eqb found (control_word_of d.number undecided)) _ found (λ swap. record { number = d.number; control = control_of k; state = has_state; is = refl }) (λ no. tells.word_is)

  -- it was swapped, or it was decided before, or is stale
  either : (word ≡ control_word_of d.number (control_of k)) × (serial_in found ≡ d.number) ⊎ (word ≡ found) × (found ≢ control_word_of d.number undecided)
  either = by (eqb found (control_word_of d.number undecided)) refl
    where
      by : (b : Bool) → eqb found (control_word_of d.number undecided) ≡ b
          → (cond b (control_word_of d.number (control_of k)) found ≡ control_word_of d.number (control_of k)) × (serial_in found ≡ d.number)
          ⊎ (cond b (control_word_of d.number (control_of k)) found ≡ found) × (found ≢ control_word_of d.number undecided)
      by true e = inl (refl, ap serial_in (eqb_yes found (control_word_of d.number undecided) e) ∙ serial_said_is d.number undecided tt)
      by false e = inr (refl, eqb_not found (control_word_of d.number undecided) e)

  now_over : (q : State) → option_map control_of (Some q) ≡ state_said d.number word → IsOver q × (d.worker ≡ v.worker → suc d.number ≡ v.next_number)
  now_over q is =
      let s = said_some d.number word (control_of q) is in
      ⊎_elim
      (λ swap. (
        decided_over q (subst IsDecided (sym (s.1 ∙ ap read_control swap.0 ∙ control_said_is d.number (control_of k) has_state ∙ without k)) (over_decided k over_k)),
        (tells.tells swap.1).newest,
      ))
      (λ same.
      let serial : serial_in found ≡ d.number = ap serial_in (sym same.0) ∙ s.0 in
      let control : control_of q ≡ read_control found = s.1 ∙ ap read_control same.0 in
      let t = tells.tells serial in (
        opened_over q (subst IsOpened (sym control) t.opened)
            (λ u. same.1 (undecided_word found d.number tells.word_is serial (sym control ∙ ap control_of u))),
        t.newest,
      )) either

  decided_known : (r : Option State) → option_map control_of r ≡ state_said d.number word → Known v d r
  decided_known None is = tt
  decided_known (Some q) is =
      let o = now_over q is in
      (opened_of q o.0, λ u. absurd (over_not q o.0 u), o.1)
    where
      opened_of : (q : State) → IsOver q → IsOpened (control_of q)
      opened_of Unused o = absurd o
      opened_of Undecided o = absurd o
      opened_of _ o = λ e. true≢false (ap tells_used e)

  pub decided_other : (opens : Option OwnDesc) → KnowsOwn v opens → (r : Option State) → option_map control_of r ≡ state_said d.number word → r ≡ None → IsOther v d
  decided_other opens own r is none mine current =
      let gone = said_none d.number word (sym (ap (λ (o : Option State). option_map control_of o) none) ∙ is) in
      let serial = tells.stays mine (own.last d.number current) in
      gone (⊎_elim (λ swap. ap serial_in swap.0 ∙ serial_said_is d.number (control_of k) has_state) (λ same. ap serial_in same.0 ∙ serial) either)

  pub saw_decided : IsKnown v.side.facts d → (r : Option State) → option_map control_of r ≡ state_said d.number word → (c : ℕ) (next : View)
      → next ≡ record v { side = control_read v.side d word; control = c } → Saw v d r next × ((q : State) → r ≡ Some q → IsOver q)
  saw_decided opened r is c next next_is =
      let side_is : control_read v.side d word ≡ said_side v.side d (option_map control_of r) = said_side_is v.side d word (known_is v.side.facts d opened) ∙ ap (said_side v.side d) (sym is) in (
        subst (Saw v d r) (sym (next_is ∙ ap (λ (s : Side). record v { side = s; control = c }) side_is)) (saw v d c r (decided_known r is)),
        λ q e. (now_over q (ap (λ (o : Option State). option_map control_of o) (sym e) ∙ is)).0,
      )
