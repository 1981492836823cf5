-- What the rule says of what is kept of the workers, at any moment and where all are at rest.
use Rattle.std.specs.Prelude.{◌≡◌, ◌≢◌, ℕ, ◌<◌, ◌≤◌, Bool, false, ◌&&◌, ◌||◌, List, [], ◌∷◌, filter, length, slice_index, None}
use Rattle.rh_world.specs.World.{Ref, Control, World, HasFailed, In, is_ref}
use Rattle.rh_world.specs.Facts.{IsPrefix, Fact}
use Rattle.rh_world.specs.Facts.Fact.{decided, failed_at}
use Rattle.rh_world.specs.Sides.{KeptRead, Side, AtRest}
use Rattle.rh_world.specs.Acts.{cells_after, is_success, own_acts, successes_of}
use Rattle.rh_world.specs.Laws.{Foretold, OneOrder, SharedOut}
use Rattle.rh_words.specs.declared.shape.Shape.{Shape}
use Rattle.rh_words.specs.Parts.{cell_count}
use Rattle.rh_words.specs.View.{OwnDesc, View}
use Rattle.rh_words.specs.Steps.{entry_of}
use Rattle.rh_words.specs.Words.{IsPlain, without_entry}
use Rattle.rh_rule.specs.Erased.{erased}
use Rattle.rh_rule.specs.Represents.{IsOpenedSo, numbers_of}
use Rattle.rh_rule.specs.Core.{Core}

-- A descriptor of worker v with these entries failed at one of them: after so many acts the entry's cell did not hold its old
-- value. Among these acts the worker's own are exactly those that it made before the descriptor, and they are not fewer than
-- at what it had read before it was opened, and not more than at what it read after that.
pub record HasMissed (w : World) (side : ℕ → Side) (v : ℕ) (o : OwnDesc) (e acts : ℕ) : Type 0 where
  pub entry : e < length o.entries
  pub prefix : IsPrefix w v o.number acts
  pub differs : cells_after w acts (entry_of o.entries e).cell ≢ (entry_of o.entries e).old
  pub read_before : (k : KeptRead) → In k (side v).reads → k.next_number ≤ o.number → k.acts ≤ acts
  pub read_after : (k : KeptRead) → In k (side v).reads → o.number < k.next_number → acts ≤ k.acts

-- The acts of the world stand in one order, and it tells of what is kept: the reads that are kept and the descriptors that
-- failed have their prefixes, and the numbers that Claims found are shared out. What is kept of a worker is true of it: its
-- opening cells, its opened descriptors, how they were decided, and at which entry they failed.
pub record WorldTells (w : World) (z : Shape) (keep : ℕ → View) (side : ℕ → Side) : Type 0 where
  pub order : OneOrder w
  pub foretold : Foretold w side
  pub shared : SharedOut w side
  pub kept : (v : ℕ) → v < z.workers → (keep v).side ≡ erased (side v)
  pub opening : (v c : ℕ) → v < z.workers → c < cell_count z → cells_after w 0 c ≡ slice_index (keep v).opening c
  pub opened : (v : ℕ) (o : OwnDesc) → v < z.workers → In o (keep v).opened
      → IsOpenedSo w (record { worker = v; number = o.number }) o
  pub results : (v : ℕ) (d : Ref) (k : Control) → v < z.workers → In (decided d k) (keep v).side.facts → without_entry (w.control d) ≡ k
  pub failed : (v : ℕ) (d : Ref) (e : ℕ) → v < z.workers → In (failed_at d e) (keep v).side.facts → HasFailed w d e
  pub missed : (v : ℕ) (o : OwnDesc) (e : ℕ) → v < z.workers → In o (keep v).opened
      → In (failed_at (record { worker = v; number = o.number }) e) (keep v).side.facts
      → HasMissed w side v o e (foretold.failed_acts (record { worker = v; number = o.number }))
  -- a worker's own acts, newest first, are those of its opened descriptors that succeeded
  pub own : (v : ℕ) → v < z.workers → own_acts w v w.act_count ≡ successes_of w v (numbers_of (keep v).opened)
  -- and each act is of a worker of the table
  pub workers : (i : ℕ) → i < w.act_count → (w.act i).worker < z.workers

-- What the rule tells at a moment at which this is kept of a worker.
pub record RuleTells (z : Shape) (v : View) : Type 0 where
  pub w : World
  pub keep : ℕ → View
  pub side : ℕ → Side
  pub tells : WorldTells w z keep side
  pub within : v.worker < z.workers
  pub is : keep v.worker ≡ v

abbrev pub TableTells : Type 0
TableTells = (w : World) (z : Shape) (words : List ℕ) (keep : ℕ → View) → (core : Core w z words keep) → WorldTells w z keep core.side

-- all workers of the table are at rest, and no wipe is under way
pub record AllRest (z : Shape) (keep : ℕ → View) : Type 0 where
  pub still : (v : ℕ) → v < z.workers → (keep v).wiping ≡ None
  pub rest : (v : ℕ) → v < z.workers → AtRest (keep v).side

-- whether a fact says that d succeeded
abbrev pub says_success : Fact → Ref → Bool
says_success (decided f k) d = is_ref f d && is_success k
says_success _ d = false

abbrev pub is_noted_success : List Fact → Ref → Bool
is_noted_success [] d = false
is_noted_success (n ∷ ns) d = says_success n d || is_noted_success ns d

-- the acts that a worker at rest has made, newest first: its opened descriptors that it noted as succeeded
abbrev pub made : View → List OwnDesc
made k = filter (λ o. is_noted_success k.side.facts (record { worker = k.worker; number = o.number })) k.opened

-- where all are at rest, these are the cells
pub record Rested (w : World) (z : Shape) (words : List ℕ) (keep : ℕ → View) (side : ℕ → Side) : Type 0 where
  pub tells : WorldTells w z keep side
  pub cells : (c : ℕ) → c < cell_count z → slice_index words c ≡ cells_after w w.act_count c
  pub plain : (c : ℕ) → c < cell_count z → IsPlain (slice_index words c)
  pub acts : (v : ℕ) → v < z.workers → own_acts w v w.act_count ≡ numbers_of (made (keep v))

abbrev pub TableRests : Type 0
TableRests = (w : World) (z : Shape) (words : List ℕ) (keep : ℕ → View) → (core : Core w z words keep) → AllRest z keep
    → Rested w z words keep core.side
