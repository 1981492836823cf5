-- What is so while the row of an own descriptor is written, and what its Open leads to.
use Rattle.std.specs.Prelude.{suc, ◌≡◌, ℕ, ◌<◌, Option, Some, None, List, ◌∷◌, length, cond, nat_lt}
use Rattle.rh_layout.specs.declared.entry.Entry.{Entry}
use Rattle.rh_words.specs.declared.shape.Shape.{Shape}
use Rattle.rh_words.specs.declared.shape.Part.TheVariants as part
use Rattle.rh_words.specs.declared.steps.StepKind.{StepKind}
use Rattle.rh_words.specs.declared.steps.StepKind.TheVariants as kind
use Rattle.rh_words.specs.Parts.{entry_row}
use Rattle.rh_words.specs.View.{OwnDesc, View}
use Rattle.rh_words.specs.Steps.{AreEntries, HasRow, Step, entry_of, row_word}
use Rattle.rh_helping.specs.declared.opening.Opening.{Opening}
use Rattle.rh_helping.specs.declared.opening.Opening.TheVariants as opening
use Rattle.rh_carrier.specs.Own.{KnowsOwn, Owns, OwesNothing}

abbrev pub kind_of_opening : Opening → StepKind
kind_of_opening opening.Serial = kind.Write
kind_of_opening opening.Length = kind.Write
kind_of_opening (opening.Cell e) = kind.Write
kind_of_opening (opening.Old e) = kind.Write
kind_of_opening (opening.New e) = kind.Write
kind_of_opening opening.Open = kind.Open

-- ---- what is so before the step

-- the worker may open a descriptor of these entries: it has a number for it
pub record MayOpen (z : Shape) (v : View) (es : List Entry) : Type 0 where
  pub owns : Owns v None
  pub owes : OwesNothing v
  pub entries : AreEntries z es
  pub room : v.next_number < z.rooms.descriptors

abbrev pub HasCell : View → List Entry → (e : ℕ) → Type 0
HasCell v es e = row_word v.written (entry_row e 0) ≡ (entry_of es e).cell

abbrev pub HasOld : View → List Entry → (e : ℕ) → Type 0
HasOld v es e = row_word v.written (entry_row e 1) ≡ (entry_of es e).old

abbrev pub HasNew : View → List Entry → (e : ℕ) → Type 0
HasNew v es e = row_word v.written (entry_row e 2) ≡ (entry_of es e).new

-- the row is of the next descriptor, and its length and its first e entries are written
pub record HasWritten (v : View) (es : List Entry) (e : ℕ) : Type 0 where
  pub row : HasRow v
  pub size : row_word v.written 2 ≡ length es
  pub cells : (f : ℕ) → f < e → HasCell v es f
  pub olds : (f : ℕ) → f < e → HasOld v es f
  pub news : (f : ℕ) → f < e → HasNew v es f

abbrev pub IsOpening : View → List Entry → Opening → Type 0
IsOpening v es opening.Serial = Unit {0}
IsOpening v es opening.Length = HasRow v
IsOpening v es (opening.Cell e) = (e < length es) × HasWritten v es e
IsOpening v es (opening.Old e) = (e < length es) × HasWritten v es e × HasCell v es e
IsOpening v es (opening.New e) = (e < length es) × HasWritten v es e × HasCell v es e × HasOld v es e
IsOpening v es opening.Open = HasWritten v es (length es)

-- ---- the step, and what it leads to

abbrev pub opening_step : View → List Entry → Opening → Step
opening_step v es opening.Serial = Step.writes (part.Serial v.worker) v.next_number
opening_step v es opening.Length = Step.writes (part.Length v.worker) (length es)
opening_step v es (opening.Cell e) = Step.writes (part.EntryCell v.worker e) (entry_of es e).cell
opening_step v es (opening.Old e) = Step.writes (part.EntryOld v.worker e) (entry_of es e).old
opening_step v es (opening.New e) = Step.writes (part.EntryNew v.worker e) (entry_of es e).new
opening_step v es opening.Open = Step.opens (length es)

-- the step after it, and none once the descriptor is opened
abbrev pub after_opening : (size : ℕ) → Opening → Option Opening
after_opening n opening.Serial = Some opening.Length
after_opening n opening.Length = Some (opening.Cell 0)
after_opening n (opening.Cell e) = Some (opening.Old e)
after_opening n (opening.Old e) = Some (opening.New e)
after_opening n (opening.New e) = cond (nat_lt (suc e) n) (Some (opening.Cell (suc e))) (Some opening.Open)
after_opening n opening.Open = None

-- the descriptor that is opened next
abbrev pub next_own : View → List Entry → OwnDesc
next_own v es = record { number = v.next_number; entries = es }

-- what is opened after the step
abbrev pub opened_after : View → List Entry → Option Opening → List OwnDesc
opened_after v es None = next_own v es ∷ v.opened
opened_after v es (Some o) = v.opened

abbrev pub OpensOn : Shape → List Entry → (v next : View) → Option Opening → Type 0
OpensOn z es v next None = KnowsOwn next (Some (next_own v es)) × OwesNothing next
OpensOn z es v next (Some o) = MayOpen z next es × IsOpening next es o × (next.next_number ≡ v.next_number)
