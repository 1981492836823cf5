-- What a K-CAS that failed says of the acts of all workers.
use Rattle.std.specs.Prelude.{◌≡◌, ◌≢◌, ℕ, ◌<◌, ◌≤◌, List, length}
use Rattle.rh_layout.specs.declared.entry.Entry.{Entry}
use Rattle.rh_world.specs.World.{World, In}
use Rattle.rh_world.specs.Facts.{IsPrefix, Fact}
use Rattle.rh_world.specs.Sides.{KeptRead, Side}
use Rattle.rh_world.specs.Acts.{cells_after}
use Rattle.rh_words.specs.declared.shape.Shape.{Shape}
use Rattle.rh_words.specs.View.{View, own_ref}
use Rattle.rh_words.specs.Steps.{entry_of}
use Rattle.rh_rule.specs.Erased.{erased_read}
use Rattle.rh_rule.specs.Rest.{WorldTells}
use Rattle.rh_helping.specs.Opening.{next_own}
use Rattle.rh_helping.specs.declared.machine.Ended.TheVariants as ended
use Rattle.rh_carrier.specs.Relies.{Knows}
use Rattle.rh_swaps.specs.Swaps.{HasEndedSo}

-- A worker of whom v was kept asked for a swap of these entries, which failed at entry e. After so many acts the entry's cell
-- did not hold its old value. Among these are all acts that the worker had made, and no other one of it. They are not fewer
-- than those at anything that it had read, and not more than those at what it read later.
pub record HasFailedSo (w : World) (side : ℕ → Side) (es : List Entry) (v : View) (e acts : ℕ) : Type 0 where
  pub entry : e < length es
  pub differs : cells_after w acts (entry_of es e).cell ≢ (entry_of es e).old
  pub prefix : IsPrefix w v.worker v.next_number acts
  pub earlier : (k : KeptRead) → In k (side v.worker).reads → In (erased_read k) v.side.reads → k.acts ≤ acts
  pub later : (k : KeptRead) → In k (side v.worker).reads → v.next_number < k.next_number → acts ≤ k.acts

-- So it is at the end of the call and at any later moment of the round, of which the rule tells.
abbrev pub FailuresTell : Type 0
FailuresTell = (w : World) (z : Shape) (keep : ℕ → View) (side : ℕ → Side) (world_tells : WorldTells w z keep side) (es : List Entry) (v next : View) (e : ℕ)
    → v.worker < z.workers → Knows z v → next.worker ≡ v.worker → HasEndedSo es v next (ended.Failed e)
    → ((n : Fact) → In n next.side.facts → In n (keep v.worker).side.facts) → In (next_own v es) (keep v.worker).opened
    → HasFailedSo w side es v e (world_tells.foretold.failed_acts (own_ref v v.next_number))
