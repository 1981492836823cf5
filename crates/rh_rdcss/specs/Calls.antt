-- What the calls of one worker at a table have in common, and what a look at a cell or at a control tells.
use Rattle.std.specs.Prelude.{◌≡◌, ℕ, cond, nat_lt, Option, None, Some, option_map, List, ◌∷◌}
use Rattle.rh_tagword.specs.declared.control.State.{State}
use Rattle.rh_tagword.specs.declared.control.State.TheVariants.{Unused, Undecided, Succeeded, Withdrawn, Failed}
use Rattle.rh_world.specs.World.{Cell, Control, In, Ref}
use Rattle.rh_world.specs.World.Cell.{desc, mark, plain}
use Rattle.rh_world.specs.World.Control.{unused}
use Rattle.rh_world.specs.Facts.{Fact}
use Rattle.rh_world.specs.Facts.Fact.{found, met}
use Rattle.rh_world.specs.Moves.{HasSeen}
use Rattle.rh_words.specs.declared.shape.Shape.{Shape}
use Rattle.rh_words.specs.declared.reference.Reading.TheVariants as reading
use Rattle.rh_words.specs.declared.reference.Ref.{Ref as Reference}
use Rattle.rh_words.specs.View.{View}
use Rattle.rh_words.specs.Words.{control_of, serial_in}
use Rattle.rh_words.specs.Steps.{Step, noted}
use Rattle.rh_words.specs.Steps.Step.{reads}
use Rattle.rh_rule.specs.declared.rule.Sitter.{Sitter}
use Rattle.rh_rule.specs.Sound.{Finds}
use Rattle.rh_rule.specs.Traces.{touched}
use Rattle.rh_carrier.specs.Relies.{Knows}
use Rattle.rh_helping.specs.CellContent.{state_said}

-- the worker made just this step and no other: it found this word, and noted it
pub record Learned (z : Shape) (s : Step) (k : Sitter) (word : ℕ) (next : Sitter) : Type 0 where
  pub view_is : next.view ≡ noted z k.view s word
  pub trace_is : next.trace ≡ touched z k.view s word ∷ k.trace
  pub finds : Finds z k.view s word
  pub knows : Knows z next.view

-- what the worker knew it still knows
abbrev pub StillKnows : View → View → Type 0
StillKnows v next = (n : Fact) → In n v.side.facts → In n next.side.facts

-- what stood in a cell is noted
abbrev pub Meets : (c : ℕ) → Cell → List Fact → Type 0
Meets c (plain u) facts = Unit {0}
Meets c (mark x) facts = In (found x c) facts
Meets c (desc d) facts = In (met d) facts

-- What a control with this word tells of its worker's descriptor of that number: where it is of an earlier one, that it is not
-- opened yet; where it is of a later one, nothing, as it is stale.
abbrev pub status_said : (number word : ℕ) → Option Control
status_said number word = cond (nat_lt (serial_in word) number) (Some unused) (state_said number word)

-- it read the control of d, which tells this of it
pub record HasStatus (z : Shape) (d : Reference) (k : Sitter) (state : Option State) (next : Sitter) : Type 0 where
  pub word : ℕ
  pub says : option_map control_of state ≡ status_said d.number word
  pub control : Learned z (reads (reading.Control d)) k word next

-- d was read as opened
abbrev pub SeenAs : Ref → Option State → List Fact → Type 0
SeenAs d None facts = Unit {0}
SeenAs d (Some Unused) facts = Unit {0}
SeenAs d (Some Undecided) facts = HasSeen facts d
SeenAs d (Some Succeeded) facts = HasSeen facts d
SeenAs d (Some Withdrawn) facts = HasSeen facts d
SeenAs d (Some (Failed by)) facts = HasSeen facts d
