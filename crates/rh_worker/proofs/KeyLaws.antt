-- A worker's own acts, and its keys.
use Rattle.std.proofs.Common.{◌≡◌, ℕ, Option, Some, None, Bool, [], ◌∷◌, refl, sym, ◌∙◌, subst, inl, inr}
use Rattle.std.proofs.lemmas.List.{append-nil}
use Rattle.rh_ledger.specs.declared.tally.Kind.{Kind}
use Rattle.rh_words.specs.declared.shape.Shape.{Shape}
use Rattle.rh_words.specs.View.{View}
use Rattle.rh_rule.specs.Sound.{Sound}
use Rattle.rh_order.specs.History.{act_of, own_acts_of}
use Rattle.rh_order.specs.OwnActs.{StepFinishes}
use Rattle.rh_order.proofs.Finishing.{steps_finish}
use Rattle.rh_order.specs.Advance.{Advances, GoesOn}
use Rattle.rh_worker.specs.Laws.{AfterStep, KeyIsDone, KeysAreDone}

module _ (z : Shape) (v next : View) (kind : Kind) (k : ℕ) (f : StepFinishes v next) where
  stays : GoesOn v next → own_acts_of next ≡ own_acts_of v
  stays g = f.stays (λ p q. g.current ∙ q)

  goes_on : Advances z kind k v next None → own_acts_of next ≡ own_acts_of v
  goes_on (inl g) = stays g
  goes_on (inr (inl o)) = f.stays (λ p q. absurd (let n : None ≡ Some p = sym o.closed ∙ q in cc))
  goes_on (inr (inr b)) = f.fails b.own b.control b.closes b.before b.in_vain

is_done : (z : Shape) (v next : View) (kind : Kind) (k : ℕ) (answer : Bool) → StepFinishes v next → Advances z kind k v next (Some answer) → KeyIsDone z kind k v next answer
is_done z v next kind k answer f (inl g) =
    record { acts = []; own = stays z v next kind k f g.0 ∙ sym (append-nil (own_acts_of v)); done = inr record { none = refl; tells = g.1 } }
is_done z v next kind k answer f (inr s) =
    record { acts = act_of s.own.entries ∷ []; own = f.succeeds s.own s.closes s.before; done = inl record { act = act_of s.own.entries; only = refl; does = s.does } }

after : (z : Shape) (v next : View) (kind : Kind) (k : ℕ) (done : Option Bool) → StepFinishes v next → Advances z kind k v next done → AfterStep z v next kind k done
after z v next kind k None f a = goes_on z v next kind k f a
after z v next kind k (Some answer) f a = is_done z v next kind k answer f a

pub keys_are_done : KeysAreDone
keys_are_done z v next kind k done m a orderly sound =
    let is = m.view_is in
    let f = subst (StepFinishes v) (sym is) (steps_finish z v m.step m.word m.allowed (subst (Sound z) is sound) orderly) in
    (f.orderly, after z v next kind k done f a)
