-- What the calls of a worker make of what is kept of it.
use Rattle.std.specs.Prelude.{suc, ◌≡◌, ℕ, ◌≤◌, ◌⊎◌, Option, Some, None, List, ◌∷◌, length}
use Rattle.rh_layout.specs.declared.entry.Entry.{Entry}
use Rattle.rh_world.specs.World.{In}
use Rattle.rh_world.specs.Facts.{Fact}
use Rattle.rh_words.specs.declared.shape.Shape.{Shape}
use Rattle.rh_words.specs.View.{OwnDesc, View, own_ref}
use Rattle.rh_words.specs.Words.{IsPlain}
use Rattle.rh_rule.specs.Rest.{RuleTells, made}
use Rattle.rh_helping.specs.declared.machine.Ended.{Ended}
use Rattle.rh_helping.specs.declared.machine.Ended.TheVariants as ended
use Rattle.rh_carrier.specs.Own.{IsClear, KnowsOwn, OwesNothing}
use Rattle.rh_helping.specs.Opening.{next_own}
use Rattle.rh_helping.specs.Work.{HasEnded, FailsWithin}
use Rattle.rh_shared.specs.Rests.{StaysAtRest}
use Rattle.rh_shared.specs.Seats.{view_of}
use Rattle.rh_helping.specs.Next.{Work}
use Rattle.rh_helping.specs.Stepping.{MayGoOn}
use Rattle.rh_shared.specs.Sits.{Sits, Stays, StaysTrusted}
use Rattle.rh_shared.specs.declared.on_table.OnTable.{OnTable}
use Rattle.rh_shared.specs.declared.seat.Seat.{Seat}
use Rattle.rh_shared.specs.declared.table.Table.{Table}
use Rattle.rh_swaps.specs.declared.swapping.Outcome.{Outcome}
use Rattle.rh_swaps.specs.declared.swapping.Outcome.TheVariants.{Done, Failed, Spent}

-- More is noted; the opening cells, the descriptors that were opened, the number of the next one, the cells that were kept as read
-- and the claims are the same.
pub record HasNoted (v next : View) : Type 0 where
  pub worker : next.worker ≡ v.worker
  pub opening : next.opening ≡ v.opening
  pub facts : (n : Fact) → In n v.side.facts → In n next.side.facts
  pub opened : next.opened ≡ v.opened
  pub next_number : next.next_number ≡ v.next_number
  pub reads : next.side.reads ≡ v.side.reads
  pub claims : next.side.claims ≡ v.side.claims

-- ---- an own K-CAS

-- the descriptor is open
pub record HasOpened (v : View) (own : OwnDesc) (next : View) : Type 0 where
  pub worker : next.worker ≡ v.worker
  pub opening : next.opening ≡ v.opening
  pub facts : (n : Fact) → In n v.side.facts → In n next.side.facts
  pub opened : next.opened ≡ own ∷ v.opened
  pub next_number : next.next_number ≡ suc v.next_number
  pub reads : next.side.reads ≡ v.side.reads
  pub claims : next.side.claims ≡ v.side.claims
  pub knows : KnowsOwn next (Some own)
  pub owes : OwesNothing next

-- The worker went on with its own open descriptor, and this is next.
pub record GoesOn (z : Shape) (own : OwnDesc) (t : OnTable) (v : View) (w : Work) (then : OnTable) (next : View) : Type 0 where
  pub may : MayGoOn Sits Sits z (Some own) w then next
  pub stays : Stays t then
  pub noted : HasNoted v next

-- This own descriptor ended so, where it failed at one of its entries, and is released; the rule tells of that moment.
pub record HasCarriedOut (z : Shape) (own : OwnDesc) (t : OnTable) (v : View) (k : Ended) (then : OnTable) (next : View) : Type 0 where
  pub stays : StaysTrusted z t then next
  pub rule_tells : RuleTells z next
  pub noted : HasNoted v next
  pub clear : IsClear next
  pub result : HasEnded next (own_ref next own.number) k
  pub entry : FailsWithin (length own.entries) k

-- it opened a descriptor of these entries, which ended so: where it failed, at one of them
pub record HasEndedSo (es : List Entry) (v next : View) (k : Ended) : Type 0 where
  pub opened : next.opened ≡ next_own v es ∷ v.opened
  pub next_number : next.next_number ≡ suc v.next_number
  pub result : HasEnded next (own_ref next v.next_number) k
  pub entry : FailsWithin (length es) k

-- it opened no descriptor, or one of these entries, which it withdrew
abbrev pub HasGivenUp : List Entry → (v next : View) → Type 0
HasGivenUp es v next = ((next.opened ≡ v.opened) × (next.next_number ≡ v.next_number)) ⊎ HasEndedSo es v next ended.Withdrawn

-- no number was left for a descriptor, or none is for a mark
abbrev pub HasNoRoom : Shape → (v next : View) → Type 0
HasNoRoom z v next = (z.rooms.descriptors ≤ v.next_number) ⊎ (z.rooms.marks ≤ next.marks_used)

-- What became of a K-CAS: whether the worker's own acts grew by these entries, in one act, or are the same.
abbrev pub BecameOf : Shape → List Entry → (v next : View) → Outcome → Type 0
BecameOf z es v next Done = HasEndedSo es v next ended.Succeeded × (made next ≡ next_own v es ∷ made v)
BecameOf z es v next (Failed e) = HasEndedSo es v next (ended.Failed e) × (made next ≡ made v)
BecameOf z es v next Spent = HasNoRoom z v next × HasGivenUp es v next × (made next ≡ made v)

pub record Swaps (z : Shape) (es : List Entry) (v next : View) (o : Outcome) : Type 0 where
  pub became : BecameOf z es v next o
  pub opening : next.opening ≡ v.opening
  pub facts : (n : Fact) → In n v.side.facts → In n next.side.facts
  pub reads : next.side.reads ≡ v.side.reads
  pub claims : next.side.claims ≡ v.side.claims

-- ---- a read

-- Of a cell a plain word is kept as read, in front of all that was kept: the newest stands first. It is kept with the number of
-- the worker's next descriptor, so that all its own acts so far are before it. Or none is, and no mark is left.
abbrev pub IsSeen : Shape → (c : ℕ) → (v next : View) → Option ℕ → Type 0
IsSeen z c v next None = (next.side.reads ≡ v.side.reads) × (z.rooms.marks ≤ next.marks_used)
IsSeen z c v next (Some word) = IsPlain word
    × (next.side.reads ≡ record { cell = c; word = word; acts = 0; next_number = v.next_number } ∷ v.side.reads)

pub record HasReadCell (z : Shape) (c : ℕ) (v next : View) (seen : Option ℕ) : Type 0 where
  pub seen_is : IsSeen z c v next seen
  pub worker : next.worker ≡ v.worker
  pub opening : next.opening ≡ v.opening
  pub facts : (n : Fact) → In n v.side.facts → In n next.side.facts
  pub opened : next.opened ≡ v.opened
  pub next_number : next.next_number ≡ v.next_number
  pub claims : next.side.claims ≡ v.side.claims

-- A cell was looked at until a plain word stood there, or no mark was left, and nothing is owed; the rule tells of that moment.
pub record HasLookedAt (z : Shape) (c : ℕ) (t : OnTable) (v : View) (seen : Option ℕ) (then : OnTable) (next : View) : Type 0 where
  pub stays : StaysTrusted z t then next
  pub clear : IsClear next
  pub rule_tells : RuleTells z next
  pub reads : HasReadCell z c v next seen

-- A seat at rest read the cell so, and rests again with the same own acts; the rule tells of that moment.
pub record HasReadAtRest (t : Table) (c : ℕ) (s : Seat) (seen : Option ℕ) (then : Seat) : Type 0 where
  pub stays : StaysAtRest t s then
  pub acts : made (view_of then) ≡ made (view_of s)
  pub reads : HasReadCell t.shape c (view_of s) (view_of then) seen
  pub rule_tells : RuleTells t.shape (view_of then)
