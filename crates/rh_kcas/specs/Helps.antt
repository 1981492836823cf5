-- What helping a descriptor makes of what is kept of the worker.
use Rattle.std.specs.Prelude.{◌≤◌, ◌⊎◌, Option, Some, None, Bool, true}
use Rattle.rh_tagword.specs.Control.{is_decided}
use Rattle.rh_tagword.specs.declared.control.State.{State}
use Rattle.rh_world.specs.World.{In, Ref, Control as Result}
use Rattle.rh_world.specs.Facts.Fact.{decided, over}
use Rattle.rh_words.specs.declared.shape.Shape.{Shape}
use Rattle.rh_words.specs.View.{View}
use Rattle.rh_words.specs.Steps.{IsKnown}
use Rattle.rh_carrier.specs.Own.{IsClear}
use Rattle.rh_carrier.specs.Relies.{Trusts}
use Rattle.rh_helping.specs.Goal.{StandsAt}
use Rattle.rh_shared.specs.Sits.{Sits}
use Rattle.rh_shared.specs.declared.on_table.OnTable.{OnTable}
use Rattle.rh_swaps.specs.Swaps.{HasNoted}

-- at its seat a worker of whom no own descriptor is open, and that owes nothing, knows of d
pub record MayHelp (z : Shape) (d : Ref) (t : OnTable) (v : View) : Type 0 where
  pub trusts : Trusts Sits z t v
  pub clear : IsClear v
  pub known : IsKnown v.side.facts d

-- d stands so, or is decided, as it is stale
abbrev pub StandsOrIsOver : View → (d : Ref) → Option State → Type 0
StandsOrIsOver v d None = In (over d) v.side.facts
StandsOrIsOver v d (Some k) = StandsAt v.side.facts d k 0

abbrev pub is_over : Option State → Bool
is_over None = true
is_over (Some k) = is_decided k

-- it is noted as decided, so or in some way
abbrev pub IsNotedOver : View → (d : Ref) → Type 0
IsNotedOver v d = ((k : Result) × In (decided d k) v.side.facts) ⊎ In (over d) v.side.facts

-- the descriptor is noted as decided, or no mark is left; the own acts are the same
pub record HasHelped (z : Shape) (d : Ref) (v next : View) : Type 0 where
  pub noted : HasNoted v next
  pub decided_so : IsNotedOver next d ⊎ (z.rooms.marks ≤ next.marks_used)
