-- What an own descriptor that was opened and carried out makes of a worker at rest.
use Rattle.std.proofs.Common.{◌≡◌, ℕ, ◌≤◌, cond, Bool, true, false, List, ◌∷◌, refl, sym, ap, ◌∙◌, subst}
use Rattle.rh_layout.specs.declared.entry.Entry.{Entry}
use Rattle.rh_helping.specs.declared.machine.Ended.{Ended}
use Rattle.rh_helping.specs.declared.machine.Ended.TheVariants.{Succeeded, Withdrawn, Failed}
use Rattle.rh_helping.specs.Work.{HasEnded}
use Rattle.rh_world.specs.World.{Control, In, Ref}
use Rattle.rh_world.specs.World.Control.{failed, succeeded, withdrawn}
use Rattle.rh_world.specs.Facts.{Fact}
use Rattle.rh_world.specs.Facts.Fact.{decided}
use Rattle.rh_world.specs.Acts.{is_success}
use Rattle.rh_words.specs.declared.shape.Shape.{Shape}
use Rattle.rh_words.specs.View.{View, own_ref}
use Rattle.rh_rule.specs.Rest.{made}
use Rattle.rh_helping.specs.Opening.{next_own}
use Rattle.rh_carrier.specs.Relies.{Knows}
use Rattle.rh_shared.specs.Rests.{IsRested}
use Rattle.rh_shared.specs.declared.on_table.OnTable.{OnTable}
use Rattle.rh_swaps.specs.Swaps.{BecameOf, HasCarriedOut, HasOpened, HasEndedSo, Swaps}
use Rattle.rh_swaps.specs.declared.swapping.Outcome.{Outcome}
use Rattle.rh_swaps.proofs.Carried.{made_more, over_more}

abbrev has_succeeded : Ended → Bool
has_succeeded Succeeded = true
has_succeeded Withdrawn = false
has_succeeded (Failed e) = false

-- it is noted how a descriptor that ended was decided
ended_noted : (v : View) (d : Ref) (k : Ended) → HasEnded v d k → (r : Control) × In (decided d r) v.side.facts × (is_success r ≡ has_succeeded k)
ended_noted v d Succeeded h = (succeeded, h, refl)
ended_noted v d Withdrawn h = (withdrawn, h, refl)
ended_noted v d (Failed e) h = (failed 0 h.0.0, h.0.1, refl)

pub record IsSwapped (z : Shape) (es : List Entry) (v next : View) (k : Ended) : Type 0 where
  pub rested : IsRested next
  pub so : HasEndedSo es v next k
  pub acts : made next ≡ cond (has_succeeded k) (next_own v es ∷ made v) (made v)
  pub spends : k ≡ Withdrawn → z.rooms.marks ≤ next.marks_used
  pub opening : next.opening ≡ v.opening
  pub facts : (n : Fact) → In n v.side.facts → In n next.side.facts
  pub reads : next.side.reads ≡ v.side.reads
  pub claims : next.side.claims ≡ v.side.claims

pub is_swapped : {t then : OnTable} (z : Shape) (es : List Entry) (v open_one next : View) (number : ℕ) (k : Ended) → v.next_number ≡ number → Knows z next → IsRested v
    → HasOpened v (next_own v es) open_one → HasCarriedOut z (record { number = number; entries = es }) t open_one k then next → IsSwapped z es v next k
is_swapped z es v mid next number k same knows rest o c =
    let worker = c.noted.worker ∙ o.worker in
    let facts : (n : Fact) → In n v.side.facts → In n next.side.facts = λ n i. c.noted.facts n (o.facts n i) in
    let opened = c.noted.opened ∙ o.opened in
    let result : HasEnded next (own_ref next v.next_number) k = subst (λ (n : ℕ). HasEnded next (own_ref next n) k) (sym same) c.result in
    let r = ended_noted next (own_ref next v.next_number) k result in
    record {
      rested = record { clear = c.clear; over = over_more v next worker facts knows.sound.one_result rest (next_own v es) opened r.0 r.1 };
      so = record { opened = opened; next_number = c.noted.next_number ∙ o.next_number; result = result; entry = c.entry };
      acts = made_more v next worker facts knows.sound.one_result rest (next_own v es) opened r.0 r.1 ∙ ap (λ (b : Bool). cond b (next_own v es ∷ made v) (made v)) r.2;
      spends = λ is. knows.sound.withdrawals (own_ref next v.next_number) refl (subst (HasEnded next (own_ref next v.next_number)) is result);
      opening = c.noted.opening ∙ o.opening;
      facts = facts;
      reads = c.noted.reads ∙ o.reads;
      claims = c.noted.claims ∙ o.claims;
    }

pub swaps_so : {z : Shape} {es : List Entry} {v next : View} {k : Ended} {o : Outcome} → IsSwapped z es v next k → BecameOf z es v next o → Swaps z es v next o
swaps_so s became = record { became = became; opening = s.opening; facts = s.facts; reads = s.reads; claims = s.claims }
