-- What a step of a worker makes of the key that it is at.
use Rattle.std.specs.Prelude.{◌≡◌, ℕ, ◌⊎◌, Option, Some, None, Bool, false, ◌∷◌}
use Rattle.rh_ledger.specs.declared.tally.Kind.{Kind}
use Rattle.rh_world.specs.World.{Control, In}
use Rattle.rh_world.specs.World.Control.{succeeded}
use Rattle.rh_world.specs.Facts.Fact.{decided}
use Rattle.rh_world.specs.Acts.{is_success}
use Rattle.rh_acts.specs.Done.{Does, IsAsRead}
use Rattle.rh_words.specs.declared.shape.Shape.{Shape}
use Rattle.rh_words.specs.View.{OwnDesc, View, own_ref}
use Rattle.rh_order.specs.History.{act_of, kept_of}
use Rattle.rh_order.specs.OwnActs.{Closes}

-- no own descriptor was opened or closed
pub record GoesOn (v next : View) : Type 0 where
  pub opened : next.opened ≡ v.opened
  pub current : next.side.current ≡ v.side.current

-- an own descriptor was opened, which does the key
pub record Opens (z : Shape) (kind : Kind) (k : ℕ) (v next : View) : Type 0 where
  pub own : OwnDesc
  pub changes : Bool
  pub opened : next.opened ≡ own ∷ v.opened
  pub closed : v.side.current ≡ None
  pub current : next.side.current ≡ Some own.number
  pub does : Does kind z.bits k changes (act_of own.entries)

-- the own descriptor that was open was closed, and it was decided before, but did not succeed
pub record Fails (v next : View) : Type 0 where
  pub own : OwnDesc
  pub control : Control
  pub closes : Closes v next own
  pub opened : next.opened ≡ v.opened
  pub before : In (decided (own_ref v own.number) control) v.side.facts
  pub in_vain : is_success control ≡ false

-- it was closed, and had succeeded: so the key is done
pub record Succeeds (z : Shape) (kind : Kind) (k : ℕ) (v next : View) (answer : Bool) : Type 0 where
  pub own : OwnDesc
  pub closes : Closes v next own
  pub opened : next.opened ≡ v.opened
  pub before : In (decided (own_ref v own.number) succeeded) v.side.facts
  pub does : Does kind z.bits k answer (act_of own.entries)

-- The key is done with this answer, or not done.
abbrev pub Advances : Shape → Kind → (k : ℕ) → (v next : View) → (done : Option Bool) → Type 0
Advances z kind k v next None = GoesOn v next ⊎ (Opens z kind k v next ⊎ Fails v next)
Advances z kind k v next (Some answer) = (GoesOn v next × IsAsRead kind z.bits (kept_of z next) k answer) ⊎ Succeeds z kind k v next answer
