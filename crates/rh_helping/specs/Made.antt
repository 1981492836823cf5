-- What a step that was made leaves of a worker's descriptors, reads and claims.
use Rattle.std.specs.Prelude.{◌≡◌, ℕ, List}
use Rattle.rh_world.specs.World.{In}
use Rattle.rh_world.specs.Facts.{Fact}
use Rattle.rh_world.specs.Sides.{KeptRead}
use Rattle.rh_words.specs.declared.shape.Shape.{Shape}
use Rattle.rh_words.specs.declared.steps.StepKind.{StepKind}
use Rattle.rh_words.specs.declared.steps.StepKind.TheVariants as kind
use Rattle.rh_words.specs.View.{OwnDesc, View}
use Rattle.rh_words.specs.Steps.{Allowed, Step, noted}
use Rattle.rh_carrier.specs.Relies.{Trusts}

abbrev pub kind_of : Step → StepKind
kind_of (Step.writes p u) = kind.Write
kind_of (Step.opens size) = kind.Open
kind_of (Step.reads r) = kind.Read
kind_of (Step.places d e c old) = kind.Place
kind_of (Step.settles x c d e old) = kind.Settle
kind_of (Step.decides d k) = kind.Decide
kind_of (Step.releases d e c k value) = kind.Release
kind_of Step.claims = kind.Claim

-- One allowed step of this kind was made, by which no key was claimed. After it these descriptors are opened, and these
-- cells kept as read.
pub record HasStepped {T : Type 0} (shows : Shape → T → View → Type 0) (made : Shape → Step → T → View → ℕ → T → View → Type 0) (z : Shape) (k : StepKind) (descs : List OwnDesc) (kept : List KeptRead) (t : T) (v : View) (then : T) (next : View) : Type 0 where
  pub step : Step
  pub word : ℕ
  pub kind : kind_of step ≡ k
  pub allowed : Allowed z v step
  pub view_is : next ≡ noted z v step word
  pub steps : made z step t v word then next
  pub trusts : Trusts shows z then next
  pub facts : (n : Fact) → In n v.side.facts → In n next.side.facts
  pub opened : next.opened ≡ descs
  pub reads : next.side.reads ≡ kept
  pub claims : next.side.claims ≡ v.side.claims

-- The step opened no descriptor, and no cell was kept as read.
abbrev pub HasMadeStep : {T : Type 0} → (shows : Shape → T → View → Type 0) → (made : Shape → Step → T → View → ℕ → T → View → Type 0) → Shape → StepKind → T → View → T → View → Type 0
HasMadeStep shows made z k t v then next = HasStepped shows made z k v.opened v.side.reads t v then next
