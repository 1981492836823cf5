-- The first of the two swaps of a restricted double-compare single-swap (Harris, Fraser and Pratt 2002): it leaves a mark where
-- an entry's old value stands. That each worker places marks of its own is this project's.
use Rattle.std.specs.Prelude.{◌≡◌, ◌≢◌, ℕ, ◌<◌, ◌≤◌, Option, None, Some}
use Rattle.rh_world.specs.World.{In}
use Rattle.rh_world.specs.Facts.Fact.{desc_is, found, old_is, target_is, which_is}
use Rattle.rh_world.specs.Moves.{HasSeen, MayWork}
use Rattle.rh_words.specs.declared.shape.Shape.{Shape}
use Rattle.rh_words.specs.declared.shape.Part.{Part}
use Rattle.rh_words.specs.declared.shape.Part.TheVariants as part
use Rattle.rh_words.specs.declared.reference.Piece.{Piece}
use Rattle.rh_words.specs.declared.reference.Reading.TheVariants as reading
use Rattle.rh_words.specs.declared.reference.Ref.{Ref as Reference}
use Rattle.rh_words.specs.View.{View}
use Rattle.rh_words.specs.Words.{desc_number, ref_of}
use Rattle.rh_words.specs.Steps.{IsDesc}
use Rattle.rh_words.specs.Steps.Step.{places, reads, writes}
use Rattle.rh_carrier.specs.Relies.{Knows}
use Rattle.rh_rdcss.specs.declared.calls.Placed.{Placed}
use Rattle.rh_rdcss.specs.declared.calls.Placed.TheVariants as placed
use Rattle.rh_rule.specs.declared.rule.Sitter.{Sitter}
use Rattle.rh_shared.specs.declared.seat.OwnMark.{OwnMark}
use Rattle.rh_shared.specs.declared.seat.Seat.{Seat}
use Rattle.rh_shared.specs.Seats.{SitsSame, view_of}
use Rattle.rh_rdcss.specs.Calls.{Learned}

-- the worker opened the descriptor or read its control as not unused, and no own mark is unsettled
pub record MayPlace (z : Shape) (v : View) (d : Reference) : Type 0 where
  pub desc : IsDesc z (ref_of d)
  pub seen : HasSeen v.side.facts (ref_of d)
  pub settled : v.side.unsettled ≡ None

-- its length was read in the row, and after it the number of the descriptor that the row is of by now
pub record ReadsLength (z : Shape) (d : Reference) (size serial : ℕ) (k next : Sitter) : Type 0 where
  pub middle : Sitter
  pub of_length : Learned z (reads (reading.Length d)) k size middle
  pub of_serial : Learned z (reads (reading.Serial d)) middle serial next

-- so it has this length, or it is stale
abbrev pub LengthSays : Shape → Reference → Option ℕ → Sitter → Sitter → Type 0
LengthSays z d None k next = (size serial : ℕ) × (serial ≢ d.number) × ReadsLength z d size serial k next
LengthSays z d (Some size) k next = ReadsLength z d size d.number k next

-- It may be placed for, and has the entry: its length is known, as that of an own descriptor, or as it was read in its row.
pub record HasEntry (z : Shape) (v : View) (d : Reference) (e : ℕ) : Type 0 where
  pub may : MayPlace z v d
  pub open may use *
  pub work : MayWork v.side (ref_of d) e

-- its cell and its old value were read in the row, and after them the number of the descriptor that the row is of by now
pub record ReadsEntry (z : Shape) (d : Reference) (e cell old serial : ℕ) (k next : Sitter) : Type 0 where
  pub first : Sitter
  pub second : Sitter
  pub of_cell : Learned z (reads (reading.EntryCell d e)) k cell first
  pub of_old : Learned z (reads (reading.EntryOld d e)) first old second
  pub of_serial : Learned z (reads (reading.Serial d)) second serial next

-- the row is of another descriptor by now
pub record IsStaleEntry (z : Shape) (d : Reference) (e : ℕ) (k next : Sitter) : Type 0 where
  pub cell : ℕ
  pub old : ℕ
  pub serial : ℕ
  pub row : ReadsEntry z d e cell old serial k next
  pub other : serial ≢ d.number

abbrev pub EntrySays : Shape → Reference → (e : ℕ) → Option (Piece × ℕ) → Sitter → Sitter → Type 0
EntrySays z d e None k next = IsStaleEntry z d e k next
EntrySays z d e (Some (p, old)) k next = (p ≡ record { desc = d; entry = e; cell = p.cell }) × ReadsEntry z d e p.cell old d.number k next

-- the entry is known, with its cell and old value
pub record KnowsPiece (z : Shape) (v : View) (p : Piece) (old : ℕ) : Type 0 where
  pub entry : HasEntry z v p.desc p.entry
  pub open entry use *
  pub knows_cell : In (target_is (ref_of p.desc) p.entry p.cell) v.side.facts
  pub knows_old : In (old_is (ref_of p.desc) p.entry old) v.side.facts

-- this was written into the own row
abbrev pub Writes : Shape → Part → (word : ℕ) → Sitter → Sitter → Type 0
Writes z p word k next = (found : ℕ) × Learned z (writes p word) k found next

-- the mark row was written: it is of the next own mark, and names the entry
pub record WritesRow (z : Shape) (p : Piece) (k next : Sitter) : Type 0 where
  pub first : Sitter
  pub second : Sitter
  pub of_serial : Writes z (part.MarkSerial k.view.worker) k.view.marks_used k first
  pub of_desc : Writes z (part.MarkDesc k.view.worker) (desc_number (ref_of p.desc)) first second
  pub of_entry : Writes z (part.MarkEntry k.view.worker) p.entry second next

-- a mark was left, its row was written, and the Place found this word
pub record Tried (z : Shape) (p : Piece) (old : ℕ) (k : Sitter) (word : ℕ) (next : Sitter) : Type 0 where
  pub left : k.view.marks_used < z.rooms.marks
  pub written : Sitter
  pub row : WritesRow z p k written
  pub place : Learned z (places (ref_of p.desc) p.entry p.cell old) written word next

-- and the mark stands in the cell where the old value was found, else that other word does
abbrev pub TriedSo : Shape → Piece → (old : ℕ) → Sitter → Placed → Sitter → Type 0
TriedSo z p old k placed.Mine next = Tried z p old k old next
TriedSo z p old k (placed.Found word) next = (word ≢ old) × Tried z p old k word next
TriedSo z p old k placed.Passed next = ⊥
TriedSo z p old k placed.Spent next = ⊥

-- the row is of the descriptor, and a mark was tried for its entry
pub record HasTried (z : Shape) (d : Reference) (e : ℕ) (k : Sitter) (old word : ℕ) (next : Sitter) : Type 0 where
  pub piece : Piece
  pub between : Sitter
  pub says : EntrySays z d e (Some (piece, old)) k between
  pub tried : Tried z piece old between word next

-- The mark stands in the cell where the old value was found, and the seat keeps for what it is; else that other word was. Or
-- the descriptor was stale, or no mark was left: then no mark was placed.
abbrev pub Places : Shape → Reference → (e : ℕ) → Sitter → Placed → Sitter → Type 0
Places z d e k placed.Mine next = (old : ℕ) × HasTried z d e k old old next
Places z d e k (placed.Found word) next = (old : ℕ) × (word ≢ old) × HasTried z d e k old word next
Places z d e k placed.Passed next = IsStaleEntry z d e k next
Places z d e k placed.Spent next = (z.rooms.marks ≤ k.view.marks_used) × (next ≡ k)

-- the worker noted for what its mark is, and in place of which old value
pub record NotesMark (v : View) (own : OwnMark) : Type 0 where
  pub of_desc : In (desc_is (ref_of own.mark) (ref_of own.piece.desc)) v.side.facts
  pub of_entry : In (which_is (ref_of own.mark) own.piece.entry) v.side.facts
  pub knows_old : In (old_is (ref_of own.piece.desc) own.piece.entry own.old) v.side.facts

-- the seat keeps its mark, which is unsettled, for this entry
pub record IsMarkFor (d : Reference) (e : ℕ) (v : View) (own : OwnMark) : Type 0 where
  pub desc : own.piece.desc ≡ d
  pub entry : own.piece.entry ≡ e
  pub worker : own.mark.worker ≡ v.worker
  pub unsettled : v.side.unsettled ≡ Some own.mark.number
  pub here : In (found (ref_of own.mark) own.piece.cell) v.side.facts
  pub facts : NotesMark v own

abbrev pub IsMine : Reference → (e : ℕ) → Seat → Type 0
IsMine d e s = (own : OwnMark) × (s.placed ≡ Some own) × IsMarkFor d e (view_of s) own

-- The seat sits as it did and still knows what it did. It keeps the mark that stands in the cell now, or else the one that it kept before.
pub record LeavesMark (z : Shape) (d : Reference) (e : ℕ) (old : Seat) (outcome : Placed) (new : Seat) : Type 0 where
  pub same : SitsSame old new
  pub knows : Knows z (view_of new)
  pub mine : outcome ≡ placed.Mine → IsMine d e new
  pub others : outcome ≢ placed.Mine → new.placed ≡ old.placed
