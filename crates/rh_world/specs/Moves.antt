-- The kinds of atomic step: when a worker may make one, the world after it, and the worker's Side after it. The swaps
-- are those of Harris, Fraser and Pratt 2002; that each helper leaves marks of its own, and Claims, are this project's.
-- What a step of the table asks for that stands in no place here, as the range of cells and the room for marks, is
-- asked where the words are.
use Rattle.std.specs.Prelude.{zero, suc, ◌≡◌, ◌⊎◌, ℕ, ◌<◌, ◌==◌, ◌&&◌, Option, Some, None, Bool, true, false, cond, List, [], ◌∷◌}
use Rattle.rh_world.specs.World.{Ref, Cell, Control, World, In, is_ref, updated, updated_ref}
use Rattle.rh_world.specs.World.Cell.{plain, mark, desc}
use Rattle.rh_world.specs.World.Control.{unused, undecided, succeeded, withdrawn, failed}
use Rattle.rh_world.specs.Logical.{entry_value, changed_by}
use Rattle.rh_world.specs.Facts.{Fact, HoldsIn}
use Rattle.rh_world.specs.Facts.Fact.{met, known, size_is, target_is, old_is, new_is, desc_is, which_is, decided, over, stale, failed_at, found, may_promote, may_demote, installed, mismatch}
use Rattle.rh_world.specs.Sides.{Side, is_number, note_side, open_side, place_side, settle_side, forget_side, paid_side, release_side, close_side, read_side, claim_side}

-- the entries of a descriptor that is opened
pub record Entries : Type 0 where
  pub size : ℕ
  pub target : ℕ → ℕ
  pub old : ℕ → ℕ
  pub new : ℕ → ℕ

pub data Move : Type 0 where
  -- Write or Read of a row's word: the worker learns what the row says, by one word or by several read before. A descriptor
  -- that is not opened yet, and a mark that was not placed, are no part of the world: what was written there is noted with
  -- the Open or the Place.
  learns : List Fact → Move
  -- Open
  opens : Entries → Move
  -- Read of a cell; of a descriptor's control; of the control of a mark that was found in a cell
  reads_cell : ℕ → Move
  reads_control : Ref → Move
  reads_mark_control : Ref → ℕ → Move
  -- Place for an entry of a descriptor
  places : Ref → ℕ → Move
  -- Settle of a mark in a cell: to its descriptor if `true`, else to the old value of its entry
  settles : Ref → ℕ → Bool → Move
  -- Decide of a descriptor
  decides : Ref → Control → Move
  -- Release of an entry of a descriptor
  releases : Ref → ℕ → Move
  -- Claim: the counter is fetched and grows by 1
  claims : Move

abbrev pub next_desc : World → (who : ℕ) → Ref
next_desc w who = record { worker = who; number = w.next_number who }

abbrev pub next_mark : World → (who : ℕ) → Ref
next_mark w who = record { worker = who; number = w.marks_used who }

-- When it is allowed.

-- what a row says, of an opened descriptor or of a used mark, or that it is of a later one
abbrev pub IsRowFact : Fact → Type 0
IsRowFact (met d) = ⊥
IsRowFact (known d) = ⊥
IsRowFact (size_is d n) = Unit {0}
IsRowFact (target_is d e c) = Unit {0}
IsRowFact (old_is d e u) = Unit {0}
IsRowFact (new_is d e u) = Unit {0}
IsRowFact (decided d k) = ⊥
IsRowFact (over d) = Unit {0}
IsRowFact (stale d) = Unit {0}
IsRowFact (failed_at d e) = Unit {0}
IsRowFact (desc_is x d) = Unit {0}
IsRowFact (which_is x e) = Unit {0}
IsRowFact (found x c) = ⊥
IsRowFact (may_promote x c) = ⊥
IsRowFact (may_demote x) = Unit {0}
IsRowFact (installed d e) = ⊥
IsRowFact (mismatch d e n) = ⊥

-- There is an entry, the cells rise, and nothing of the worker is open. That the cells are in range and the values plain
-- is asked where the words are.
pub record CanOpen (side : ℕ → Side) (who : ℕ) (p : Entries) : Type 0 where
  pub nonempty : 0 < p.size
  pub rising : (e f : ℕ) → e < f → f < p.size → p.target e < p.target f
  pub closed : (side who).current ≡ None

-- The worker knows that d was opened and has an entry e. A Place and a Release ask for both: a swap for an entry that d
-- does not have would leave a mark, or take a descriptor, that nobody owes.
pub record MayWork (s : Side) (d : Ref) (e : ℕ) : Type 0 where
  pub size : ℕ
  pub known : In (size_is d size) s.facts
  pub within : e < size

-- The worker opened d, or read its control as undecided or as decided. A Place asks for it: that d was met in a cell is not
-- enough.
abbrev pub HasSeen : List Fact → Ref → Type 0
HasSeen facts d = In (known d) facts ⊎ ((k : Control) × In (decided d k) facts)

-- Succeeded: each entry is noted as installed, of the entries that d is known to have. Failed: a mismatch is noted at the
-- entry, and the worker names itself. Withdrawn: d is the worker's own. That no mark is left to it then is asked where
-- the marks have room: the rule is kept without it.
abbrev pub MayDecide : Side → (who : ℕ) → Ref → Control → Type 0
MayDecide s who d unused = ⊥
MayDecide s who d undecided = ⊥
MayDecide s who d succeeded = (n : ℕ) × In (size_is d n) s.facts × ((e : ℕ) → e < n → In (installed d e) s.facts)
MayDecide s who d withdrawn = d.worker ≡ who
MayDecide s who d (failed e by) = (by ≡ who) × ((n : ℕ) × In (mismatch d e n) s.facts)

-- The worker knows how d is decided, or that it is and that it is stale.
abbrev pub KnowsOver : Side → Ref → Type 0
KnowsOver s d = ((k : Control) × In (decided d k) s.facts) ⊎ (In (over d) s.facts × In (stale d) s.facts)

-- nothing is open, and no earlier Claim found the end
pub record MayClaim (w : World) (s : Side) (who : ℕ) : Type 0 where
  pub worker : who < w.workers
  pub closed : s.current ≡ None
  pub keys : (n : ℕ) → In n s.claims → n < w.keys

-- A Read of a mark's control needs the mark found before, so that it comes after it. A Settle is allowed with a mark that
-- was found in that cell, where the worker placed it or met it; and to its descriptor only if that was read as undecided
-- after that, else only if it was read as decided. A Decide also asks that the worker opened d or read its
-- control as undecided, since only then is there a control to swap. A Release asks that d is known as decided, and how; or that
-- it is stale: then it stands in a cell only if it did not succeed, and the old value is put there.
abbrev pub IsAllowed : World → (ℕ → Side) → (who : ℕ) → Move → Type 0
IsAllowed w side who (learns ns) = (n : Fact) → In n ns → IsRowFact n × HoldsIn w n
IsAllowed w side who (opens p) = CanOpen side who p
IsAllowed w side who (reads_cell c) = Unit {0}
IsAllowed w side who (reads_control d) = Unit {0}
IsAllowed w side who (reads_mark_control x c) = In (found x c) (side who).facts
IsAllowed w side who (places d e) = MayWork (side who) d e × ((side who).unsettled ≡ None) × HasSeen (side who).facts d
IsAllowed w side who (settles x c true) = In (found x c) (side who).facts × In (may_promote x c) (side who).facts
IsAllowed w side who (settles x c false) = In (found x c) (side who).facts × In (may_demote x) (side who).facts
IsAllowed w side who (decides d k) = In (known d) (side who).facts × MayDecide (side who) who d k
IsAllowed w side who (releases d e) = MayWork (side who) d e × KnowsOver (side who) d
IsAllowed w side who claims = MayClaim w (side who) who

-- The world after it.

-- d is opened, with these entries
abbrev pub open_world : World → Ref → Entries → World
open_world w d p = record w {
  control = updated_ref w.control d undecided;
  size = updated_ref w.size d p.size;
  target = updated_ref w.target d p.target;
  old = updated_ref w.old d p.old;
  new = updated_ref w.new d p.new;
  acts_before = updated_ref w.acts_before d w.act_count;
  next_number = updated w.next_number d.worker (suc d.number);
}

-- mark x is placed for entry e of d
abbrev pub place_world : World → Ref → Ref → ℕ → World
place_world w x d e = record w {
  cell = updated w.cell (w.target d e) (mark x);
  marks_used = updated w.marks_used x.worker (suc x.number);
  mark_desc = updated_ref w.mark_desc x d;
  mark_entry = updated_ref w.mark_entry x e;
}

-- a cell alone changes
abbrev pub cell_world : World → (c : ℕ) → Cell → World
cell_world w c k = record w { cell = updated w.cell c k }

-- d is decided, and did not succeed
abbrev pub decide_world : World → Ref → Control → World
decide_world w d k = record w { control = updated_ref w.control d k }

-- d succeeded: it is the next act
abbrev pub succeed_world : World → Ref → World
succeed_world w d = record w {
  control = updated_ref w.control d succeeded;
  act_count = suc w.act_count;
  act = updated w.act w.act_count d;
  logical = updated w.logical (suc w.act_count) (changed_by w d (w.size d) (w.logical w.act_count));
}

abbrev pub claim_world : World → World
claim_world w = record w { counter = suc w.counter }

-- whether a cell holds what a swap asks for
abbrev pub is_plain : Cell → ℕ → Bool
is_plain (plain u) v = u == v
is_plain (mark x) v = false
is_plain (desc d) v = false

abbrev pub is_mark : Cell → Ref → Bool
is_mark (plain u) x = false
is_mark (mark y) x = is_ref y x
is_mark (desc d) x = false

abbrev pub is_desc : Cell → Ref → Bool
is_desc (plain u) d = false
is_desc (mark x) d = false
is_desc (desc f) d = is_ref f d

-- d, whose control is the first, is swapped from undecided to the second
abbrev pub decided_world : World → Ref → Control → Control → World
decided_world w d unused k = w
decided_world w d undecided unused = w
decided_world w d undecided undecided = w
decided_world w d undecided succeeded = succeed_world w d
decided_world w d undecided withdrawn = decide_world w d withdrawn
decided_world w d undecided (failed e by) = decide_world w d (failed e by)
decided_world w d succeeded k = w
decided_world w d withdrawn k = w
decided_world w d (failed e by) k = w

-- what a Settle of mark x puts in its place
abbrev pub settled_cell : World → Ref → Bool → Cell
settled_cell w x true = desc (w.mark_desc x)
settled_cell w x false = plain (w.old (w.mark_desc x) (w.mark_entry x))

-- what a Release of entry e of d puts in its place
abbrev pub released_cell : World → Ref → (e : ℕ) → Cell
released_cell w d e = plain (entry_value (w.control d) (w.old d e) (w.new d e))

-- a swap that finds another word changes nothing
abbrev pub world_after : World → (who : ℕ) → Move → World
world_after w who (learns ns) = w
world_after w who (opens p) = open_world w (next_desc w who) p
world_after w who (reads_cell c) = w
world_after w who (reads_control d) = w
world_after w who (reads_mark_control x c) = w
world_after w who (places d e) = cond (is_plain (w.cell (w.target d e)) (w.old d e)) (place_world w (next_mark w who) d e) w
world_after w who (settles x c to) = cond (is_mark (w.cell c) x) (cell_world w c (settled_cell w x to)) w
world_after w who (decides d k) = decided_world w d (w.control d) k
world_after w who (releases d e) = cond (is_desc (w.cell (w.target d e)) d) (cell_world w (w.target d e) (released_cell w d e)) w
world_after w who claims = claim_world w

-- The Side after it: what the worker notes.

-- several facts, the first one last
abbrev pub note_all : Side → List Fact → Side
note_all s [] = s
note_all s (n ∷ ns) = note_side (note_all s ns) n

-- of its own descriptor all that the row says
abbrev pub note_entries : Side → Ref → Entries → (n : ℕ) → Side
note_entries s d p zero = note_side (note_side s (known d)) (size_is d p.size)
note_entries s d p (suc n) =
    note_side (note_side (note_side (note_entries s d p n) (target_is d n (p.target n))) (old_is d n (p.old n))) (new_is d n (p.new n))

-- of cell c, after so many acts, where the worker's next descriptor has this number; a plain word is kept as read where
-- nothing is open
abbrev pub cell_noted : Side → (c : ℕ) → Cell → (current : Option ℕ) → (acts next_number : ℕ) → Side
cell_noted s c (plain u) None acts next = read_side s c u acts next
cell_noted s c (plain u) (Some p) acts next = s
cell_noted s c (mark x) p acts next = note_side s (found x c)
cell_noted s c (desc d) p acts next = note_side s (met d)

-- of the control of d
abbrev pub control_noted : Side → Ref → Control → Side
control_noted s d unused = s
control_noted s d undecided = note_side (forget_side s d) (known d)
control_noted s d succeeded = note_side s (decided d succeeded)
control_noted s d withdrawn = note_side s (decided d withdrawn)
control_noted s d (failed e by) = note_side s (decided d (failed e by))

-- of mark x, found in cell c, whose descriptor has this control
abbrev pub mark_noted : Side → Ref → (c : ℕ) → Control → Side
mark_noted s x c unused = s
mark_noted s x c undecided = note_side s (may_promote x c)
mark_noted s x c succeeded = note_side s (may_demote x)
mark_noted s x c withdrawn = note_side s (may_demote x)
mark_noted s x c (failed e by) = note_side s (may_demote x)

-- the own mark x was placed in cell c for entry e of d
abbrev pub placed_noted : Side → (x d : Ref) → (e c : ℕ) → Side
placed_noted s x d e c = note_side (note_side (note_side (place_side s x.number) (desc_is x d)) (which_is x e)) (found x c)

-- of what a Place of the own mark x found in cell c, whose old value is wanted there for entry e of d, after so many acts
abbrev pub place_noted : Side → (x d : Ref) → (e c old : ℕ) → Cell → (acts : ℕ) → Side
place_noted s x d e c old (plain u) acts = cond (u == old) (placed_noted s x d e c) (note_side s (mismatch d e acts))
place_noted s x d e c old (mark y) acts = note_side s (found y c)
place_noted s x d e c old (desc f) acts = cond (is_ref f d) (note_side s (installed d e)) (note_side s (met f))

-- An own mark for entry e of d is settled, whatever the swap found; where it was swapped to its descriptor, that is installed.
abbrev pub settle_noted : Side → (d : Ref) → (e c : ℕ) → (promoted : Bool) → Side
settle_noted s d e c promoted = cond promoted (note_side (settle_side s d c) (installed d e)) (settle_side s d c)

abbrev pub has : (e : ℕ) → List ℕ → Bool
has e [] = false
has e (x ∷ xs) = cond (e == x) true (has e xs)

-- whether each number below n stands in the list
abbrev pub covers : (n : ℕ) → List ℕ → Bool
covers zero l = true
covers (suc n) l = has n l && covers n l

-- entry e of the own open descriptor, which has n entries, is released; with the last one the descriptor is closed
abbrev pub release_noted : Side → (e n : ℕ) → Side
release_noted s e n = cond (covers n (e ∷ s.released)) (close_side (release_side s e)) (release_side s e)

abbrev pub side_after : World → Side → (who : ℕ) → Move → Side
side_after w s who (learns ns) = note_all s ns
side_after w s who (opens p) = note_entries (open_side s (w.next_number who)) (next_desc w who) p p.size
side_after w s who (reads_cell c) = cell_noted s c (w.cell c) s.current w.act_count (w.next_number who)
side_after w s who (reads_control d) = control_noted s d (w.control d)
side_after w s who (reads_mark_control x c) =
    mark_noted (control_noted s (w.mark_desc x) (w.control (w.mark_desc x))) x c (w.control (w.mark_desc x))
side_after w s who (places d e) = place_noted s (next_mark w who) d e (w.target d e) (w.old d e) (w.cell (w.target d e)) w.act_count
side_after w s who (settles x c to) =
    cond (is_number s.unsettled who x) (settle_noted s (w.mark_desc x) (w.mark_entry x) c (to && is_mark (w.cell c) x)) s
side_after w s who (decides d k) = control_noted s d ((world_after w who (decides d k)).control d)
side_after w s who (releases d e) =
    cond (is_number s.current who d) (release_noted (paid_side s d (w.target d e)) e (w.size d)) (paid_side s d (w.target d e))
side_after w s who claims = claim_side s w.counter

-- the Sides after it: those of the other workers stay
abbrev pub sides_after : World → (ℕ → Side) → (who : ℕ) → Move → ℕ → Side
sides_after w side who m = updated side who (side_after w (side who) who m)
