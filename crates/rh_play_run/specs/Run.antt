-- The text that a play prints, and what comes of a run.
use Rattle.std.specs.Prelude.{◌≡◌, ◌≢◌, ℕ, ◌<◌, ◌≤◌, Bool, true, false, List, ◌++◌, length, Option, Some, None, Result, Ok, Err}
use Rattle.std.specs.Io.KnownBytes.{Appends}
use Rattle.rh_layout.specs.Layout.{Layout}
use Rattle.rh_ledger.specs.declared.tally.Tally.{Tally}
use Rattle.rh_ledger.specs.Phase.{set_after, tally_of}
use Rattle.rh_turns.specs.Game.{AllFinished, Game}
use Rattle.rh_interleaving.specs.declared.fault.PlayFault.{PlayFault}
use Rattle.rh_ledger.specs.Tally.{tally_by}
use Rattle.rh_interleaving.specs.Made.{IsMadeSoFar, TallySpec, changed_count, done_count}
use Rattle.rh_bytes.specs.Counting.{AppendsFront}
use Rattle.rh_dump.specs.Dump.{dump_text}
use Rattle.rh_play_text.specs.declared.fault.PlayTextFault.{PlayTextFault}
use Rattle.rh_play_text.specs.declared.fault.PlayTextKind.TheVariants as kind
use Rattle.rh_lines.specs.Lines.{lines_of}
use Rattle.rh_play_text.specs.declared.limits.TheConstants.{MAX_TEXT_BYTES}
use Rattle.rh_play_text.specs.declared.play.Play.{Play}
use Rattle.rh_play_text.specs.Grammar.{HasNoFaultBefore, sayings_of}
use Rattle.rh_play_text.specs.Play.{said_of}
use Rattle.rh_play_text.specs.Lines.{end_line, tally_line}
use Rattle.rh_play_run.specs.declared.fault.PlayRunFault.{PlayRunFault}
use Rattle.rh_play_run.specs.declared.fault.PlayRunFault.TheVariants.{Read, Text, Start, Memory, Write}
use Rattle.rh_play_run.specs.Beginning.{BeginsPlay, CanBegin, IsRefusedStart, bits_of, held_of, work_keys}
use Rattle.rh_play_run.specs.declared.log.Telling.{Telling}
use Rattle.rh_play_run.specs.declared.limits.TheConstants.{MAX_TOLD}
use Rattle.rh_play_run.specs.declared.ending.Played.{Played}
use Rattle.rh_play_run.specs.declared.tell_fault.TellFault.{TellFault}
use Rattle.rh_play_run.specs.declared.tell_fault.TellFault.TheVariants as tells
use Rattle.rh_play_run.specs.Pieces.{MayBeTold, LogEntry, steps_after, told}
use Rattle.rh_play_run.specs.Schedule.{CarriesOutAll}

-- ---- the end of a play

-- what the keys that are done are counted as
abbrev pub tally_so_far : Game → Tally
tally_so_far g = tally_by g.kind (done_count g) (changed_count g)

abbrev pub IsAllFinished : Game → Bool → Type 0
IsAllFinished g true = AllFinished g
IsAllFinished g false = ¬ AllFinished g

-- the lines below the dump
unfoldable pub closing : Tally → (finished : Bool) → List ℕ
closing tally finished = tally_line tally ++ end_line finished

-- what is counted so far, which is the tallies of the workers, and whether all workers are finished
abbrev pub ClosesWith : Game → (text : List ℕ) → Type 0
ClosesWith g text = (finished : Bool) × IsAllFinished g finished × (text ≡ closing (tally_so_far g) finished) × TallySpec g (tally_so_far g)

-- The cells that are dumped stand for what the workers have made.
pub record EndsSoFar (bits : ℕ) (g : Game) (text : List ℕ) : Type 0 where
  pub cells : List ℕ
  pub so_far : IsMadeSoFar g cells
  pub close : List ℕ
  pub closes : ClosesWith g close
  pub text_is : text ≡ dump_text bits cells ++ close

-- The text tells the layout and the tally of one worker that does all keys one after the other.
pub record EndsAsOne (play : Play) (text : List ℕ) : Type 0 where
  pub cells : List ℕ
  pub layout : Layout cells (bits_of play) (set_after play.kind (held_of play) (work_keys play.work))
  pub text_is : text ≡ dump_text (bits_of play) cells ++ closing (tally_of play.kind (held_of play) (work_keys play.work)) true

-- ---- the whole text

-- The schedule is followed from the beginning on.
pub record IsCarriedOut (play : Play) : Type 0 where
  pub first : Game
  pub last : Game
  pub begins : BeginsPlay play first
  pub pieces : List LogEntry
  pub follows : CarriesOutAll play.schedule.items first pieces last

-- It is carried out and told so; and then the end is told.
pub record IsPlayed (telling : Telling) (play : Play) (text : List ℕ) : Type 0 where
  pub run : IsCarriedOut play
  pub open run use *
  pub short : MayBeTold telling (steps_after 0 pieces)
  pub ending : List ℕ
  pub ends : EndsSoFar (bits_of play) last ending
  pub as_one : AllFinished last → EndsAsOne play ending
  pub text_is : text ≡ told telling 0 pieces ++ ending

-- The play makes more steps than are told of any.
pub record IsLong (play : Play) : Type 0 where
  pub run : IsCarriedOut play
  pub open run use *
  pub long : MAX_TOLD < steps_after 0 pieces

-- what a play prints
abbrev pub printed : Played → List ℕ
printed played = played.body.items ++ (dump_text played.bits played.cells.items ++ played.closing.items)

-- It is what is told of the play, unless the steps are too many to be told.
pub record PlaysAsTold (telling : Telling) (play : Play) (played : Played) : Type 0 where
  pub short : MayBeTold telling played.steps → IsPlayed telling play (printed played)
  pub long : MAX_TOLD < played.steps → IsLong play

-- ---- what comes of a run

-- known bytes say this play
abbrev pub IsPlayRead : Option (List ℕ) → Play → Type 0
IsPlayRead None play = Unit {0}
IsPlayRead (Some bytes) play = sayings_of bytes ≡ Ok (said_of play)

-- The line of this number is read: the text is not too long, and no line before it has a fault.
pub record IsLineRead (number : ℕ) (text : List ℕ) : Type 0 where
  pub size : length text ≤ MAX_TEXT_BYTES
  pub first : 1 ≤ number
  pub last : number ≤ length (lines_of text)
  pub before : HasNoFaultBefore number text

-- This is the first fault of the text; or memory was refused in a line that is read.
abbrev pub IsRefusedText : List ℕ → PlayTextFault → Type 0
IsRefusedText text fault =
    (fault.kind ≢ kind.Memory → sayings_of text ≡ Err fault) × (fault.kind ≡ kind.Memory → IsLineRead fault.line text)

-- Known bytes are refused by this fault.
abbrev pub IsTextFault : Option (List ℕ) → PlayTextFault → Type 0
IsTextFault None fault = Unit {0}
IsTextFault (Some bytes) fault = IsRefusedText bytes fault

-- the text of the play that the bytes say
abbrev pub IsRunOf : Telling → (bytes : Option (List ℕ)) (text : List ℕ) → Type 0
IsRunOf telling bytes text = (play : Play) × IsPlayRead bytes play × IsPlayed telling play text

-- The start of the play that the bytes say is refused by this fault.
abbrev pub IsRefused : (bytes : Option (List ℕ)) → PlayFault → Type 0
IsRefused bytes fault = (play : Play) × IsPlayRead bytes play × IsRefusedStart play fault

-- The bytes say a play that can begin.
abbrev pub SaysGoodPlay : (bytes : Option (List ℕ)) → Type 0
SaysGoodPlay bytes = (play : Play) × IsPlayRead bytes play × CanBegin play

-- No play was read. Of a failed read and of want of memory other clauses speak.
abbrev pub IsUnread : (bytes : Option (List ℕ)) → PlayRunFault → Type 0
IsUnread bytes Read = Unit {0}
IsUnread bytes (Text fault) = IsTextFault bytes fault
IsUnread bytes (Start fault) = ⊥
IsUnread bytes Memory = Unit {0}
IsUnread bytes Write = ⊥

-- No text was made of a play.
abbrev pub IsUnplayed : Play → PlayRunFault → Type 0
IsUnplayed play Read = ⊥
IsUnplayed play (Text fault) = ⊥
IsUnplayed play (Start fault) = IsRefusedStart play fault
IsUnplayed play Memory = CanBegin play
IsUnplayed play Write = ⊥

-- Nothing of a play was printed: the bytes say none, or one that does not begin. Of a failed read and of want of memory other
-- clauses speak.
abbrev pub IsUnrun : (bytes : Option (List ℕ)) → PlayRunFault → Type 0
IsUnrun bytes Read = Unit {0}
IsUnrun bytes (Text fault) = IsTextFault bytes fault
IsUnrun bytes (Start fault) = IsRefused bytes fault
IsUnrun bytes Memory = Unit {0}
IsUnrun bytes Write = ⊥

-- The bytes said a play, and its text or a front of it was written; or nothing was.
abbrev pub RunsPlay : {X : Type 0} → Telling → (bytes old new : Option (List ℕ)) → Result X PlayRunFault → Type 0
RunsPlay telling bytes old new (Ok x) = (text : List ℕ) × IsRunOf telling bytes text × Appends old new text
RunsPlay telling bytes old new (Err Write) = (text : List ℕ) × IsRunOf telling bytes text × AppendsFront old new text
RunsPlay telling bytes old new (Err fault) = IsUnrun bytes fault

-- The same where a play is told; or it makes too many steps for that.
abbrev pub TellsPlay : {X : Type 0} → Telling → (bytes old new : Option (List ℕ)) → Result X TellFault → Type 0
TellsPlay telling bytes old new (Ok x) = RunsPlay telling bytes old new (Ok x)
TellsPlay {X = X} telling bytes old new (Err (tells.Play fault)) = RunsPlay {X = X} telling bytes old new (Err fault)
TellsPlay telling bytes old new (Err tells.TooLong) = (play : Play) × IsPlayRead bytes play × IsLong play
