-- What a worker's steps make of the acts that it has finished, and of the reads that were kept. Here its own steps matter
-- alone: what is kept of a worker changes in no other.
use Rattle.std.specs.Prelude.{ℕ, ◌≡◌, ◌<◌, ◌⊎◌, Some, None, List, [], ◌∷◌, ◌++◌, false}
use Rattle.std.specs.List.{Contains}
use Rattle.rh_world.specs.World.{Control, World, In, IsFalling}
use Rattle.rh_world.specs.World.Control.{succeeded}
use Rattle.rh_world.specs.Facts.Fact.{decided}
use Rattle.rh_world.specs.Sides.{KeptRead}
use Rattle.rh_world.specs.Acts.{is_success}
use Rattle.rh_words.specs.declared.reference.Reading.TheVariants as reading
use Rattle.rh_words.specs.declared.shape.Shape.{Shape}
use Rattle.rh_words.specs.Parts.{cell_count}
use Rattle.rh_words.specs.View.{OwnDesc, View, own_ref}
use Rattle.rh_words.specs.Words.{IsPlain}
use Rattle.rh_words.specs.Steps.{Allowed, Step, noted}
use Rattle.rh_words.specs.Steps.Step.{reads}
use Rattle.rh_rule.specs.Represents.{numbers_of}
use Rattle.rh_rule.specs.Core.{Core}
use Rattle.rh_rule.specs.Sound.{Sound}
use Rattle.rh_acts.specs.Done.{Kept, kept}
use Rattle.rh_order.specs.History.{value_of, act_of, kept_of, own_acts_of}

-- What is kept of a worker's descriptors is in order: their numbers fall, and lie below the next one. The open one is the
-- newest, and each other one is noted as decided.
pub record Orderly (v : View) : Type 0 where
  pub falling : IsFalling (numbers_of v.opened)
  pub below : (n : ℕ) → In n (numbers_of v.opened) → n < v.next_number
  pub newest : (p : ℕ) → v.side.current ≡ Some p → (o : OwnDesc) × (earlier : List OwnDesc) × (v.opened ≡ o ∷ earlier) × (o.number ≡ p)
  pub over : (o : OwnDesc) → In o v.opened
      → (v.side.current ≡ Some o.number) ⊎ ((k : Control) × In (decided (own_ref v o.number) k) v.side.facts)

-- between these two the descriptor is closed
pub record Closes (v next : View) (o : OwnDesc) : Type 0 where
  pub opened : In o v.opened
  pub current : v.side.current ≡ Some o.number
  pub closed : next.side.current ≡ None

-- What a step makes of the acts that the worker has finished: one more where it closes a descriptor that succeeded. Else
-- they stay.
pub record StepFinishes (v next : View) : Type 0 where
  pub orderly : Orderly next
  pub stays : ((p : ℕ) → v.side.current ≡ Some p → next.side.current ≡ Some p) → own_acts_of next ≡ own_acts_of v
  pub succeeds : (o : OwnDesc) → Closes v next o → In (decided (own_ref v o.number) succeeded) v.side.facts
      → own_acts_of next ≡ own_acts_of v ++ act_of o.entries ∷ []
  pub fails : (o : OwnDesc) (k : Control) → Closes v next o → In (decided (own_ref v o.number) k) v.side.facts → is_success k ≡ false
      → own_acts_of next ≡ own_acts_of v

-- It is enough that what the step leaves noted is sound, as each step tells its worker.
abbrev pub StepsFinish : Type 0
StepsFinish = (z : Shape) (v : View) (s : Step) (word : ℕ) → Allowed z v s → Sound z (noted z v s word) → Orderly v
    → StepFinishes v (noted z v s word)

-- Under the rule what is kept of each worker is in order.
abbrev pub KeptIsOrderly : Type 0
KeptIsOrderly = (w : World) (z : Shape) (words : List ℕ) (keep : ℕ → View) (v : ℕ) → Core w z words keep → v < z.workers → Orderly (keep v)

-- A plain word that is read in a cell of the table, while nothing of the worker is open, is kept as read, and comes first.
abbrev pub PlainReadsComeFirst : Type 0
PlainReadsComeFirst = (z : Shape) (v : View) (c word : ℕ) → v.side.current ≡ None → c < cell_count z → IsPlain word
    → kept_of z (noted z v (reads (reading.Cell c)) word) ≡ kept c (value_of word) ∷ kept_of z v

-- What was read of a cell of the table is kept, and stays so in each step.
abbrev pub ReadsAreKept : Type 0
ReadsAreKept = (z : Shape) (v : View) (r : KeptRead) → In r v.side.reads → r.cell < cell_count z
    → Contains (kept_of z v) (kept r.cell (value_of r.word))

abbrev pub ReadsStay : Type 0
ReadsStay = (z : Shape) (v : View) (s : Step) (word : ℕ) → ((r : KeptRead) → In r v.side.reads → In r (noted z v s word).side.reads)
    × ((k : Kept) → Contains (kept_of z v) k → Contains (kept_of z (noted z v s word)) k)
