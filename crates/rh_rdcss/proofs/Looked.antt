-- What a look at a cell or at a control notes.
use Rattle.std.proofs.Common.{◌≡◌, ◌≢◌, ℕ, eqb, Bool, true, false, cond, Option, None, Some, refl, sym, ap, subst, inl, inr}
use Rattle.std.specs.Prelude.{nat_lt, option_map}
use Rattle.rh_tagword.specs.declared.control.State.{State}
use Rattle.rh_tagword.specs.declared.control.State.TheVariants.{Unused, Undecided, Succeeded, Withdrawn, Failed}
use Rattle.rh_world.specs.World.{Cell, Control, In, Ref}
use Rattle.rh_world.specs.Facts.{Fact}
use Rattle.rh_world.specs.World.Cell.{desc, mark, plain}
use Rattle.rh_world.specs.World.Control.{failed, succeeded, undecided, unused, withdrawn}
use Rattle.rh_world.specs.Sides.{Side}
use Rattle.rh_world.specs.Moves.{HasSeen, cell_noted, control_noted}
use Rattle.rh_world.proofs.Tests.{by_cond}
use Rattle.rh_words.specs.Steps.{control_read, stale_noted, is_known}
use Rattle.rh_words.specs.Words.{control_of, read_control, serial_in}
use Rattle.rh_rdcss.specs.Calls.{Meets, SeenAs, status_said}

pub meets : (s : Side) (c : ℕ) (k : Cell) (current : Option ℕ) (acts next : ℕ) → Meets c k (cell_noted s c k current acts next).facts
meets s c (plain u) current acts next = tt
meets s c (mark x) current acts next = inl refl
meets s c (desc d) current acts next = inl refl

-- ---- a control

said_is : (k r : Control) → k ≢ unused → (earlier same : Bool) → Some k ≡ cond {A = Option Control} earlier (Some unused) (cond same (Some r) None) → (same ≡ true) × (r ≡ k)
said_is k r opened true same e = absurd (opened (let q : k ≡ unused = cc in q))
said_is k r opened false true e = (refl, (let q : k ≡ r = cc in sym q))
said_is k r opened false false e = cc

seen : (s : Side) (d : Ref) (k : Control) → k ≢ unused → HasSeen (control_noted s d k).facts d
seen s d unused opened = absurd (opened refl)
seen s d undecided opened = inl (inl refl)
seen s d succeeded opened = inr (succeeded, inl refl)
seen s d withdrawn opened = inr (withdrawn, inl refl)
seen s d (failed e by) opened = inr (failed e by, inl refl)

pub control_settles_none : (s : Side) (d : Ref) (k : Control) → (control_noted s d k).unsettled ≡ s.unsettled
control_settles_none s d unused = refl
control_settles_none s d undecided = refl
control_settles_none s d succeeded = refl
control_settles_none s d withdrawn = refl
control_settles_none s d (failed e by) = refl

-- what was known is known still
control_facts : (s : Side) (d : Ref) (k : Control) (n : Fact) → In n s.facts → In n (control_noted s d k).facts
control_facts s d unused n i = i
control_facts s d undecided n i = inr i
control_facts s d succeeded n i = inr i
control_facts s d withdrawn n i = inr i
control_facts s d (failed e by) n i = inr i

module _ (s : Side) (d : Ref) (word : ℕ) where
  pub still_known : (n : Fact) → In n s.facts → In n (control_read s d word).facts
  still_known n i = by_cond (λ (t : Side). In n t.facts) (eqb (serial_in word) d.number) _ _ (λ yes. control_facts s d (read_control word) n i)
      (λ no. by_cond (λ (t : Side). In n t.facts) (is_known s.facts d) (stale_noted s d) s (λ h. inr (inr i)) (λ h. i))

  read_seen : (k : Control) → k ≢ unused → Some k ≡ status_said d.number word → HasSeen (control_read s d word).facts d
  read_seen k opened e =
      let q = said_is k (read_control word) opened (nat_lt (serial_in word) d.number) (eqb (serial_in word) d.number) e in
      subst (λ (t : Side). HasSeen t.facts d)
      (sym (ap (λ (b : Bool). cond b (control_noted s d (read_control word)) (cond (is_known s.facts d) (stale_noted s d) s)) q.0))
      (subst (λ (r : Control). HasSeen (control_noted s d r).facts d) (sym q.1) (seen s d k opened))

  pub seen_as : (k : Option State) → option_map control_of k ≡ status_said d.number word → SeenAs d k (control_read s d word).facts
  seen_as None e = tt
  seen_as (Some Unused) e = tt
  seen_as (Some Undecided) e = read_seen undecided (λ q. cc) e
  seen_as (Some Succeeded) e = read_seen succeeded (λ q. cc) e
  seen_as (Some Withdrawn) e = read_seen withdrawn (λ q. cc) e
  seen_as (Some (Failed by)) e = read_seen (failed 0 by) (λ q. cc) e

  pub same_unsettled : (control_read s d word).unsettled ≡ s.unsettled
  same_unsettled = by_cond (λ (t : Side). t.unsettled ≡ s.unsettled) (eqb (serial_in word) d.number) _ _ (λ yes. control_settles_none s d (read_control word))
      (λ no. by_cond (λ (t : Side). t.unsettled ≡ s.unsettled) (is_known s.facts d) (stale_noted s d) s (λ h. refl) (λ h. refl))
