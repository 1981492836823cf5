-- The stages in which a mark that was met in a cell is settled: which one comes after which, and what is so at each.
use Rattle.std.specs.Prelude.{◌≡◌, ◌≢◌, ℕ, Option, Some, None}
use Rattle.rh_world.specs.World.{Control as WorldControl, In, Ref}
use Rattle.rh_world.specs.World.Control.{failed, succeeded, undecided, unused, withdrawn}
use Rattle.rh_world.specs.Facts.{Fact}
use Rattle.rh_world.specs.Facts.Fact.{decided, found, desc_is, which_is, may_demote, stale}
use Rattle.rh_words.specs.declared.reference.Ref.{Ref as Reference}
use Rattle.rh_words.specs.declared.reference.Piece.{Piece}
use Rattle.rh_words.specs.declared.steps.StepKind.{StepKind}
use Rattle.rh_words.specs.declared.steps.StepKind.TheVariants as kind
use Rattle.rh_words.specs.View.{MarkWord, View}
use Rattle.rh_words.specs.View.MarkWord.{desc_word, entry_word}
use Rattle.rh_words.specs.View.RowWord.{old_word}
use Rattle.rh_words.specs.Words.{desc_in, ref_of}
use Rattle.rh_words.specs.Steps.{MaySettle}
use Rattle.rh_helping.specs.CellContent.{state_said}
use Rattle.rh_helping.specs.Goal.{HasReadRow}
use Rattle.rh_helping.specs.Next.{Settles}
use Rattle.rh_helping.specs.Next.{Settles as settling}

-- More is noted.
pub record Keeps (v next : View) : Type 0 where
  pub worker : next.worker ≡ v.worker
  pub next_number : next.next_number ≡ v.next_number
  pub facts : (n : Fact) → In n v.side.facts → In n next.side.facts

-- No descriptor is newly noted that this worker decided as failed: those it noted as it decided them.
abbrev pub FailsNone : (v next : View) → Type 0
FailsNone v next = (f : Ref) → In (decided f (failed 0 v.worker)) next.side.facts → In (decided f (failed 0 v.worker)) v.side.facts

-- and nothing else is changed
pub record Grows (v next : View) : Type 0 where
  pub keeps : Keeps v next
  pub open keeps use *
  pub failures : FailsNone v next
  pub marks_used : next.marks_used ≡ v.marks_used
  pub opened : next.opened ≡ v.opened
  pub written : next.written ≡ v.written
  pub current : next.side.current ≡ v.side.current
  pub released : next.side.released ≡ v.side.released
  pub unsettled : next.side.unsettled ≡ v.side.unsettled
  pub debts : next.side.debts ≡ v.side.debts

abbrev pub kind_of_settling : Settles → StepKind
kind_of_settling (settling.Desc x c) = kind.Read
kind_of_settling (settling.Entry x c u) = kind.Read
kind_of_settling (settling.Serial x c u e) = kind.Read
kind_of_settling (settling.Control x p) = kind.Read
kind_of_settling (settling.Old x p) = kind.Read
kind_of_settling (settling.OldSerial x p old) = kind.Read
kind_of_settling (settling.Settle x p old) = kind.Settle

-- ---- which stage comes next

-- the row of a mark that was met in this cell says that it is for this piece
pub record Names (c named entry : ℕ) (p : Piece) : Type 0 where
  pub cell : p.cell ≡ c
  pub entry_is : p.entry ≡ entry
  pub desc : desc_in named ≡ Some (ref_of p.desc)

-- By what the control tells of its descriptor, which was opened: a mark of an undecided one is settled to it, of a decided
-- one to the old value, which is read first, and that of a stale one is left.
abbrev pub ByControl : Reference → Piece → Option WorldControl → Option Settles → Type 0
ByControl x p None next = next ≡ None
ByControl x p (Some unused) next = ⊥
ByControl x p (Some undecided) next = next ≡ Some (settling.Settle x p None)
ByControl x p (Some succeeded) next = next ≡ Some (settling.Old x p)
ByControl x p (Some withdrawn) next = next ≡ Some (settling.Old x p)
ByControl x p (Some (failed e by)) next = next ≡ Some (settling.Old x p)

-- By the word that was found the worker goes on to this stage, or to none. What was read in a row is so of the mark, or of the
-- descriptor, only where the row is still of it.
abbrev pub GoesOn : Settles → (word : ℕ) → Option Settles → Type 0
GoesOn (settling.Desc x c) word next = next ≡ Some (settling.Entry x c word)
GoesOn (settling.Entry x c named) word next = next ≡ Some (settling.Serial x c named word)
GoesOn (settling.Serial x c named entry) word None = word ≢ x.number
GoesOn (settling.Serial x c named entry) word (Some next) = (word ≡ x.number) × ((p : Piece) × (Names c named entry p × (next ≡ settling.Control x p)))
GoesOn (settling.Control x p) word next = ByControl x p (state_said p.desc.number word) next
GoesOn (settling.Old x p) word next = next ≡ Some (settling.OldSerial x p word)
GoesOn (settling.OldSerial x p old) word None = word ≢ p.desc.number
GoesOn (settling.OldSerial x p old) word (Some next) = (word ≡ p.desc.number) × (next ≡ settling.Settle x p (Some old))
GoesOn (settling.Settle x p old) word next = next ≡ None

-- ---- what is so at each

-- the mark was found in the piece's cell, and is for this piece
pub record IsFound (v : View) (x : Reference) (p : Piece) : Type 0 where
  pub met : In (found (ref_of x) p.cell) v.side.facts
  pub of_desc : In (desc_is (ref_of x) (ref_of p.desc)) v.side.facts
  pub of_entry : In (which_is (ref_of x) p.entry) v.side.facts

-- this word was read in the row of the mark
abbrev pub HasReadMark : View → Reference → MarkWord → Type 0
HasReadMark v x u = In (record { mark = ref_of x; word = u }) v.raw

abbrev pub IsSettling : View → Settles → Type 0
IsSettling v (settling.Desc x c) = In (found (ref_of x) c) v.side.facts
IsSettling v (settling.Entry x c u) = In (found (ref_of x) c) v.side.facts × HasReadMark v x (desc_word u)
IsSettling v (settling.Serial x c u e) = In (found (ref_of x) c) v.side.facts × HasReadMark v x (desc_word u) × HasReadMark v x (entry_word e)
IsSettling v (settling.Control x p) = IsFound v x p
IsSettling v (settling.Old x p) = IsFound v x p × In (may_demote (ref_of x)) v.side.facts
IsSettling v (settling.OldSerial x p old) = IsFound v x p × In (may_demote (ref_of x)) v.side.facts × HasReadRow v (ref_of p.desc) (old_word p.entry old)
IsSettling v (settling.Settle x p old) = IsFound v x p × MaySettle v (ref_of x) p.cell (ref_of p.desc) p.entry old

-- The mark is left once it is settled, or where it is stale, and then nothing is noted of it, or that of its
-- descriptor.
abbrev pub EndsSettling : (v next : View) → Settles → Type 0
EndsSettling v next (settling.Desc x c) = ⊥
EndsSettling v next (settling.Entry x c u) = ⊥
EndsSettling v next (settling.Serial x c u e) = next.side ≡ v.side
EndsSettling v next (settling.Control x p) = In (stale (ref_of p.desc)) next.side.facts
EndsSettling v next (settling.Old x p) = ⊥
EndsSettling v next (settling.OldSerial x p old) = In (stale (ref_of p.desc)) next.side.facts
EndsSettling v next (settling.Settle x p old) = Unit {0}

-- what the step leads to: the next one, or none where the mark is left
abbrev pub LeadsOn : (v next : View) → Settles → Option Settles → Type 0
LeadsOn v next s None = EndsSettling v next s
LeadsOn v next s (Some on) = IsSettling next on
