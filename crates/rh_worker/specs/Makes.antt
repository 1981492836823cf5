-- What a worker's step is.
use Rattle.std.specs.Prelude.{◌≡◌, ℕ}
use Rattle.std.specs.List.{Contains}
use Rattle.rh_acts.specs.Done.{Kept}
use Rattle.rh_words.specs.declared.shape.Shape.{Shape}
use Rattle.rh_words.specs.declared.steps.StepKind.{StepKind}
use Rattle.rh_words.specs.View.{View}
use Rattle.rh_words.specs.Steps.{Allowed, Step, noted}
use Rattle.rh_carrier.specs.Relies.{Trusts}
use Rattle.rh_helping.specs.Made.{kind_of}
use Rattle.rh_order.specs.History.{kept_of}

-- One allowed step of this kind was made. It claimed no key, and what was kept as read is still kept.
pub record MakesStep {T : Type 0} (shows : Shape → T → View → Type 0) (made : Shape → Step → T → View → ℕ → T → View → Type 0) (z : Shape) (k : StepKind) (t : T) (v : View) (then : T) (next : View) : Type 0 where
  pub step : Step
  pub word : ℕ
  pub kind : kind_of step ≡ k
  pub allowed : Allowed z v step
  pub view_is : next ≡ noted z v step word
  pub steps : made z step t v word then next
  pub trusts : Trusts shows z then next
  pub claims : next.side.claims ≡ v.side.claims
  pub reads : (r : Kept) → Contains (kept_of z v) r → Contains (kept_of z next) r

-- One allowed step took what is kept of the worker from the one to the other.
pub record Moves (z : Shape) (v next : View) : Type 0 where
  pub step : Step
  pub word : ℕ
  pub allowed : Allowed z v step
  pub view_is : next ≡ noted z v step word
