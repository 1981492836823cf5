-- What the steps of a worker make of its own acts, and how its keys are done.
use Rattle.std.specs.Prelude.{◌≡◌, ℕ, Option, Some, None, Bool, List, ◌++◌}
use Rattle.rh_ledger.specs.declared.tally.Kind.{Kind}
use Rattle.rh_acts.specs.Act.{Act}
use Rattle.rh_acts.specs.Done.{KeyDone}
use Rattle.rh_words.specs.declared.shape.Shape.{Shape}
use Rattle.rh_words.specs.View.{View}
use Rattle.rh_rule.specs.Sound.{Sound}
use Rattle.rh_order.specs.History.{kept_of, own_acts_of}
use Rattle.rh_order.specs.OwnActs.{Orderly}
use Rattle.rh_order.specs.Advance.{Advances}
use Rattle.rh_worker.specs.Makes.{Moves}

-- The key is done by the next own acts, and its answer follows from them, or from what was read.
pub record KeyIsDone (z : Shape) (kind : Kind) (k : ℕ) (v next : View) (answer : Bool) : Type 0 where
  pub acts : List Act
  pub own : own_acts_of next ≡ own_acts_of v ++ acts
  pub done : KeyDone kind z.bits (kept_of z next) k acts answer

-- in a step of a worker that is in order, with what is sound after it
abbrev pub AfterStep : (z : Shape) (v next : View) (kind : Kind) (k : ℕ) (done : Option Bool) → Type 0
AfterStep z v next kind k None = own_acts_of next ≡ own_acts_of v
AfterStep z v next kind k (Some answer) = KeyIsDone z kind k v next answer

abbrev pub KeysAreDone : Type 0
KeysAreDone = (z : Shape) (v next : View) (kind : Kind) (k : ℕ) (done : Option Bool)
    → Moves z v next → Advances z kind k v next done → Orderly v → Sound z next → Orderly next × AfterStep z v next kind k done
