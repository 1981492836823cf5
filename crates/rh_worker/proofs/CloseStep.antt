-- The step that closes an own descriptor is a Release, which notes nothing.
use Rattle.std.proofs.Common.{◌≡◌, ℕ, ◌≤◌, Bool, false, Some, None, List, [], ◌∷◌, refl, sym, ap, ◌∙◌, subst, inl}
use Rattle.rh_world.specs.World.{Control, In, Ref}
use Rattle.rh_world.specs.Facts.{Fact}
use Rattle.rh_world.specs.Sides.{Side, is_number, open_side}
use Rattle.rh_world.proofs.Tests.{by_cond}
use Rattle.rh_world.specs.Facts.Fact.{decided}
use Rattle.rh_world.specs.Acts.{is_success}
use Rattle.rh_ledger.specs.declared.tally.Kind.{Kind}
use Rattle.rh_acts.specs.Done.{Does}
use Rattle.rh_order.specs.History.{act_of}
use Rattle.rh_order.specs.OwnActs.{Closes}
use Rattle.rh_order.proofs.Learning.{steps_grow}
use Rattle.rh_words.specs.declared.steps.StepKind.{StepKind}
use Rattle.rh_helping.specs.Next.StageOutcome.{Closed}
use Rattle.rh_helping.specs.declared.machine.Ended.{Ended}
use Rattle.rh_helping.specs.declared.machine.Ended.TheVariants as ended
use Rattle.rh_carrier.specs.Own.{IsNewestOwn, KnowsOwn}
use Rattle.rh_helping.specs.Made.{HasMadeStep}
use Rattle.rh_helping.specs.Work.{HasEnded, Leads}
use Rattle.rh_worker.specs.Worker.{GivesUp}
use Rattle.rh_rule.specs.Sound.{Sound}
use Rattle.rh_world.specs.World.Control.{failed, succeeded, withdrawn}
use Rattle.rh_order.specs.Advance.{Fails, Succeeds}
use Rattle.rh_layout.specs.declared.entry.Entry.{Entry}
use Rattle.rh_words.specs.declared.shape.Shape.{Shape}
use Rattle.rh_words.specs.View.{OwnDesc, View, own_ref}
use Rattle.rh_words.specs.Steps.{Step, entries_of, next_entries, noted, own_desc, release_view}
use Rattle.rh_rule.proofs.OpensKept.{entries_current}
use Rattle.rh_rule.proofs.SeatsKept.{noted_worker}

released_notes : (v : View) (d : Ref) (e c : ℕ) → (release_view v d e c).facts ≡ v.side.facts
released_notes v d e c = by_cond (λ (t : Side). t.facts ≡ v.side.facts) (is_number v.side.current v.worker d) _ _
    (λ h. by_cond (λ (t : Side). t.facts ≡ v.side.facts) _ _ _ (λ i. refl) (λ i. refl)) (λ h. refl)

-- the open one, by a list that is the same
pub opens_same : (v : View) (number : ℕ) (es same : List Entry) → same ≡ es → KnowsOwn v (Some (record { number = number; entries = es }))
    → KnowsOwn v (Some (record { number = number; entries = same }))
opens_same v number es same is h = subst (λ (l : List Entry). KnowsOwn v (Some (record { number = number; entries = l }))) (sym is) h

pub does_same : (kind : Kind) (b k : ℕ) (changes : Bool) (es same : List Entry) → same ≡ es → Does kind b k changes (act_of es) → Does kind b k changes (act_of same)
does_same kind b k changes es same is h = subst (λ (l : List Entry). Does kind b k changes (act_of l)) (sym is) h

module _ (z : Shape) (v : View) (word n : ℕ) (opened : v.side.current ≡ Some n) where
  stays_open : (s : Step) → (noted z v s word).side.current ≡ v.side.current → (noted z v s word).side.current ≡ None → ⊥
  stays_open s same closed = let q : None ≡ Some n = sym closed ∙ same ∙ opened in cc

  pub noted_before : (s : Step) → (noted z v s word).side.current ≡ None → (m : Fact) → In m (noted z v s word).side.facts → In m v.side.facts
  noted_before (Step.writes p u) closed m i = absurd (stays_open (Step.writes p u) refl closed)
  noted_before (Step.opens size) closed m i =
      let q : None ≡ Some v.next_number = sym closed ∙ entries_current (open_side v.side v.next_number) (own_desc v) (entries_of (next_entries v size)) size in absurd (cc)
  noted_before (Step.reads r) closed m i = absurd (stays_open (Step.reads r) (steps_grow z v (Step.reads r) word tt).current closed)
  noted_before (Step.places d e c old) closed m i = absurd (stays_open (Step.places d e c old) (steps_grow z v (Step.places d e c old) word tt).current closed)
  noted_before (Step.settles x c d e old) closed m i = absurd (stays_open (Step.settles x c d e old) (steps_grow z v (Step.settles x c d e old) word tt).current closed)
  noted_before (Step.decides d k) closed m i = absurd (stays_open (Step.decides d k) (steps_grow z v (Step.decides d k) word tt).current closed)
  noted_before (Step.releases d e c k value) closed m i = subst (λ (ns : List Fact). In m ns) (released_notes v d e c) i
  noted_before Step.claims closed m i = absurd (stays_open Step.claims refl closed)

module _ {T : Type 0} {shows : Shape → T → View → Type 0} {does : Shape → Step → T → View → ℕ → T → View → Type 0} (z : Shape) (kp : StepKind) (t : T) (v : View) (then : T) (next : View) (made : HasMadeStep shows does z kp t v then next)
    (kind : Kind) (key : ℕ) (changes : Bool) (own : OwnDesc) (knows : KnowsOwn v (Some own)) (done : Does kind z.bits key changes (act_of own.entries))
    (end : Ended) (leads : Leads z next (Some own) (Closed end)) where
  same_number : leads.0.number ≡ own.number
  same_number = let e : Some own ≡ Some leads.0 = leads.1 in let d : own ≡ leads.0 = cc in ap (λ (x : OwnDesc). x.number) (sym d)

  newest_in : (os : List OwnDesc) → IsNewestOwn os own → In own os
  newest_in [] is = absurd is
  newest_in (o ∷ os) is = inl (sym is)

  closes : Closes v next own
  closes = record {
    opened = newest_in v.opened knows.newest;
    current = knows.current;
    closed = leads.2.own.current;
  }

  before : (k : Control) → In (decided (own_ref next leads.0.number) k) next.side.facts → In (decided (own_ref v own.number) k) v.side.facts
  before k noted_so =
      let is = made.view_is in
      let closed : (noted z v made.step made.word).side.current ≡ None = sym (ap (λ (n : View). n.side.current) is) ∙ leads.2.own.current in
      let same : next.worker ≡ v.worker = ap (λ (n : View). n.worker) is ∙ noted_worker z v made.step made.word in
      let here : In (decided (own_ref next leads.0.number) k) (noted z v made.step made.word).side.facts = subst (λ (n : View). In (decided (own_ref next leads.0.number) k) n.side.facts) is noted_so in
      subst (λ (n : ℕ). In (decided (own_ref v n) k) v.side.facts) same_number
      (subst (λ (w : ℕ). In (decided (record { worker = w; number = leads.0.number }) k) v.side.facts) same
      (noted_before z v made.word own.number knows.current made.step closed _ here))

  ended_so : (e : Ended) → end ≡ e → HasEnded next (own_ref next leads.0.number) e
  ended_so e is = subst (HasEnded next (own_ref next leads.0.number)) is leads.2.result

  pub swap_succeeds : end ≡ ended.Succeeded → Succeeds z kind key v next changes
  swap_succeeds is = record { own = own; closes = closes; opened = made.opened; before = before succeeded (ended_so ended.Succeeded is); does = done }

  in_vain : (k : Control) → In (decided (own_ref next leads.0.number) k) next.side.facts → is_success k ≡ false → Fails v next
  in_vain k noted_so vain = record { own = own; control = k; closes = closes; opened = made.opened; before = before k noted_so; in_vain = vain }

  pub swap_withdraws : end ≡ ended.Withdrawn → Fails v next
  swap_withdraws is = in_vain withdrawn (ended_so ended.Withdrawn is) refl

  pub swap_fails : (e : ℕ) → end ≡ ended.Failed e → Fails v next
  swap_fails e is = let h = (ended_so (ended.Failed e) is).0 in in_vain (failed 0 h.0) h.1 refl

  -- it was withdrawn: no mark is left
  pub swap_spends : end ≡ ended.Withdrawn → z.rooms.marks ≤ next.marks_used
  swap_spends is = made.trusts.knows.sound.withdrawals (own_ref next leads.0.number) refl (ended_so ended.Withdrawn is)

  -- one that was withdrawn is closed as withdrawn
  given_up : Sound z v → GivesUp v next → (k : Control) → In (decided (own_ref next leads.0.number) k) next.side.facts → k ≡ withdrawn
  given_up sound gives k noted_so =
      let numbers : Some own.number ≡ Some gives.own.number = sym knows.current ∙ gives.closes.current in
      let same : gives.own.number ≡ own.number = let n : own.number ≡ gives.own.number = cc in sym n in
      sound.one_result (own_ref v own.number) k withdrawn (before k noted_so) (subst (λ (n : ℕ). In (decided (own_ref v n) withdrawn) v.side.facts) same gives.before)

  pub success_stays : Sound z v → GivesUp v next → end ≡ ended.Succeeded → ⊥
  success_stays sound gives is = let e : succeeded ≡ withdrawn = given_up sound gives succeeded (ended_so ended.Succeeded is) in cc

  pub failure_stays : Sound z v → GivesUp v next → (e : ℕ) → end ≡ ended.Failed e → ⊥
  failure_stays sound gives e is = let h = (ended_so (ended.Failed e) is).0 in let f : failed 0 h.0 ≡ withdrawn = given_up sound gives (failed 0 h.0) h.1 in cc

-- what is still open is not given up
pub still_open : (v next : View) (number : ℕ) → next.side.current ≡ Some number → GivesUp v next → ⊥
still_open v next number is gives = let e : None ≡ Some number = sym gives.closes.closed ∙ is in cc
