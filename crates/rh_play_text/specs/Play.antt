-- What the code's lines, drafts and plays stand for.
use Rattle.std.specs.Prelude.{List, [], ◌∷◌, ◌++◌, map, Option, Some, None, Result}
use Rattle.rh_lines.specs.Grammar as texts
use Rattle.rh_play_text.specs.declared.draft.Draft.{Draft}
use Rattle.rh_play_text.specs.declared.draft.Draft.TheVariants.{Empty, Named, Sized, Filled, Roomed, Working, Scheduled}
use Rattle.rh_play_text.specs.declared.draft.Table.{Table}
use Rattle.rh_play_text.specs.declared.fault.PlayTextKind.{PlayTextKind}
use Rattle.rh_play_text.specs.declared.fault.PlayTextKind.TheVariants.{Memory}
use Rattle.rh_play_text.specs.declared.line.TextLine.{TextLine}
use Rattle.rh_play_text.specs.declared.line.TextLine.TheVariants as lines
use Rattle.rh_play_text.specs.declared.play.Play as plays
use Rattle.rh_play_text.specs.declared.play.PlayRooms as rooms
use Rattle.rh_play_text.specs.declared.play.Work as works
use Rattle.rh_play_text.specs.declared.play.Work.TheVariants as work
use Rattle.rh_play_text.specs.declared.schedule.Order.{Order}
use Rattle.std.specs.Global.{Global}
use Rattle.std.specs.Prelude.{Vec}
use Rattle.rh_play_text.specs.Saying.{Saying, Play, Bits, Held, Rooms, Work, Share, Schedule, AtStart, AfterPlay, AfterBits, AfterHeld, AfterRooms, AmongWork, AmongSchedule}
use Rattle.rh_play_text.specs.Grammar.{Way}

-- What a call answers, seen by view, is what the grammar says; want of memory says nothing of it.
abbrev pub Answers : {X Y : Type 0} → Result Y PlayTextKind → (X → Y) → Result X PlayTextKind → Type 0
Answers = texts.AnswersExcept Memory

abbrev pub saying_as : TextLine → Saying
saying_as (lines.Play kind) = Play kind
saying_as (lines.Bits bits) = Bits bits
saying_as (lines.Held keys) = Held keys.items
saying_as (lines.Rooms descriptors marks) = Rooms descriptors marks
saying_as (lines.Work keys) = Work keys.items
saying_as (lines.Share workers keys) = Share workers keys.items
saying_as (lines.Schedule order) = Schedule order

-- the line that gives the rooms, if they are given
abbrev pub rooms_said : Option rooms.PlayRooms → List Saying
rooms_said None = []
rooms_said (Some r) = Rooms r.descriptors r.marks ∷ []

-- the lines that give the keys of the workers
abbrev pub work_said : works.Work → List Saying
work_said (work.Pieces pieces) = map (λ piece. Work piece.items) pieces.items
work_said (work.Share workers keys) = Share workers keys.items ∷ []

-- the lines that say this play
abbrev pub said_of : plays.Play → List Saying
said_of play =
    Play play.kind ∷ Bits play.bits.value ∷ Held play.held.items ∷ rooms_said play.rooms ++ work_said play.work ++ map Schedule play.schedule.items

abbrev pub table_said : Table → List Saying
table_said table =
    Play table.kind ∷ Bits table.bits.value ∷ Held table.held.items ∷ rooms_said table.rooms

-- what a draft holds, and where it stands
abbrev pub way_of : Draft → Way
way_of Empty = (AtStart, [])
way_of (Named kind) = (AfterPlay, Play kind ∷ [])
way_of (Sized kind bits) = (AfterBits, Play kind ∷ Bits bits.value ∷ [])
way_of (Filled kind bits held) = (AfterHeld, Play kind ∷ Bits bits.value ∷ Held held.items ∷ [])
way_of (Roomed table) = (AfterRooms, table_said table)
way_of (Working table pieces) = (AmongWork, table_said table ++ map (λ piece. Work piece.items) pieces.items)
way_of (Scheduled play) = (AmongSchedule, said_of play)

-- the play of a table, with the keys of its workers and its schedule
abbrev pub with_work : Table → works.Work → Vec Order Global → plays.Play
with_work table work schedule = record {
  kind = table.kind;
  bits = table.bits;
  held = table.held;
  rooms = table.rooms;
  work = work;
  schedule = schedule;
}
