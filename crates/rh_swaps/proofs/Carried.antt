-- The acts that a worker at rest has made, after it noted more.
use Rattle.std.proofs.Common.{◌≡◌, ℕ, Bool, cond, List, ◌∷◌, filter, sym, ap, ◌∙◌, subst, ⊎_elim}
use Rattle.rh_world.specs.World.{Control, In, Ref}
use Rattle.rh_world.specs.Facts.{Fact}
use Rattle.rh_world.specs.Facts.Fact.{decided}
use Rattle.rh_world.specs.Acts.{is_success}
use Rattle.rh_words.specs.View.{OwnDesc, View, own_ref}
use Rattle.rh_rule.specs.Rest.{is_noted_success, made}
use Rattle.rh_rule.proofs.Telling.{OneResult, noted_same, same_filtered, success_noted}
use Rattle.rh_carrier.specs.Own.{IsClear}
use Rattle.rh_words.specs.declared.shape.Shape.{Shape}
use Rattle.rh_carrier.specs.Relies.{Knows}
use Rattle.rh_shared.specs.Rests.{IsRested}
use Rattle.rh_swaps.specs.Swaps.{HasNoted}

module _ (v next : View) (worker : next.worker ≡ v.worker) (facts : (n : Fact) → In n v.side.facts → In n next.side.facts) (one : OneResult next.side.facts) (rest : IsRested v) where
  same_ref : (n : ℕ) → own_ref v n ≡ own_ref next n
  same_ref n = λ i. record { worker = sym worker i; number = n }

  still_over : (o : OwnDesc) → In o v.opened → (k : Control) × In (decided (own_ref next o.number) k) next.side.facts
  still_over o i =
      let h = rest.over o i in
      (h.0, subst (λ (d : Ref). In (decided d h.0) next.side.facts) (same_ref o.number) (facts (decided (own_ref v o.number) h.0) h.1))

  abbrev says : OwnDesc → Bool
  says o = is_noted_success next.side.facts (own_ref next o.number)

  same_acts : filter says v.opened ≡ made v
  same_acts = same_filtered says (λ o. is_noted_success v.side.facts (own_ref v o.number)) v.opened (λ o i.
      let h = rest.over o i in
      ap (is_noted_success next.side.facts) (sym (same_ref o.number)) ∙ noted_same v.side.facts next.side.facts (own_ref v o.number) h.0 facts one h.1)

  pub over_same : next.opened ≡ v.opened → (o : OwnDesc) → In o next.opened → (k : Control) × In (decided (own_ref next o.number) k) next.side.facts
  over_same opened o i = still_over o (subst (λ (os : List OwnDesc). In o os) opened i)

  pub made_same : next.opened ≡ v.opened → made next ≡ made v
  made_same opened = ap (filter says) opened ∙ same_acts

  module _ (own : OwnDesc) (opened : next.opened ≡ own ∷ v.opened) (k : Control) (result : In (decided (own_ref next own.number) k) next.side.facts) where
    pub over_more : (o : OwnDesc) → In o next.opened → (k : Control) × In (decided (own_ref next o.number) k) next.side.facts
    over_more o i = ⊎_elim (λ (q : o ≡ own). (k, subst (λ (x : OwnDesc). In (decided (own_ref next x.number) k) next.side.facts) (sym q) result))
        (λ (i : In o v.opened). still_over o i) (subst (λ (os : List OwnDesc). In o os) opened i)

    pub made_more : made next ≡ cond (is_success k) (own ∷ made v) (made v)
    made_more =
        let is : is_success k ≡ says own = success_noted next.side.facts (own_ref next own.number) k (λ j i. one (own_ref next own.number) k j result i) (k, result) in
        ap (filter says) opened
        ∙ ap (λ (b : Bool). cond b (own ∷ filter says v.opened) (filter says v.opened)) (sym is)
        ∙ ap (λ (os : List OwnDesc). cond (is_success k) (own ∷ os) os) same_acts

pub rested_on : (z : Shape) (v next : View) → Knows z next → HasNoted v next → IsRested v → IsClear next → IsRested next
rested_on z v next knows n rest clear = record { clear = clear; over = over_same v next n.worker n.facts knows.sound.one_result rest n.opened }

pub acts_on : (z : Shape) (v next : View) → Knows z next → HasNoted v next → IsRested v → made next ≡ made v
acts_on z v next knows n rest = made_same v next n.worker n.facts knows.sound.one_result rest n.opened
