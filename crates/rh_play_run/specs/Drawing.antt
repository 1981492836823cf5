-- The picture that is drawn of a play.
use Rattle.std.specs.Prelude.{◌≡◌, ℕ, ◌<◌, ◌≤◌, max, List, length, take, Option, Some, None, Result, Ok, Err, Vec}
use Rattle.std.specs.Global.{Global}
use Rattle.std.specs.Io.KnownBytes.{Appends}
use Rattle.rh_words.specs.declared.shape.Shape.{Shape}
use Rattle.rh_words.specs.Parts.{cell_count}
use Rattle.rh_turns.specs.Game.{Game}
use Rattle.rh_draw.specs.Picture.{IsPicture}
use Rattle.rh_draw.specs.Records.{count_from}
use Rattle.rh_draw.specs.declared.limits.TheConstants.{MAX_STEPS}
use Rattle.rh_draw.specs.declared.records.Record.{Record}
use Rattle.rh_draw.specs.declared.records.Window.{Window}
use Rattle.rh_bytes.specs.Counting.{AppendsFront}
use Rattle.rh_play_text.specs.declared.play.Play.{Play}
use Rattle.rh_play_run.specs.declared.draw_fault.DrawFault.{DrawFault}
use Rattle.rh_play_run.specs.declared.draw_fault.DrawFault.TheVariants as draw
use Rattle.rh_play_run.specs.declared.fault.PlayRunFault.TheVariants as plays
use Rattle.rh_play_run.specs.declared.log.Telling.TheVariants.{Records}
use Rattle.rh_play_run.specs.Pieces.{recorded}
use Rattle.rh_play_run.specs.Run.{IsCarriedOut, IsLong, IsPlayRead, IsUnrun}

-- The play was carried out: the table, the words of its cells at first, and what happened.
pub record IsRecorded (play : Play) (z : Shape) (cells : List ℕ) (records : List Record) : Type 0 where
  pub run : IsCarriedOut play
  pub open run use *
  pub shape_is : z ≡ first.shape
  pub long : length cells ≡ cell_count z
  pub cells_are : cells ≡ take (cell_count z) first.words
  pub records_are : records ≡ recorded Records 0 pieces

-- the first step from this number on: steps are numbered from 1
abbrev pub first_step : ℕ → ℕ
first_step from = max from 1

-- So many steps from this number on, or all from it on, which are not too many.
abbrev pub IsWindow : (from : ℕ) → (steps : Option ℕ) → List Record → Window → Type 0
IsWindow from (Some n) records window = (window ≡ record { from = first_step from; steps = n }) × (n ≤ MAX_STEPS)
IsWindow from None records window = (window ≡ record { from = first_step from; steps = count_from from records }) × (count_from from records ≤ MAX_STEPS)

-- The text is a picture of these steps of the play.
pub record IsDrawn (play : Play) (from : ℕ) (steps : Option ℕ) (text : List ℕ) : Type 0 where
  pub table : Shape
  pub cells : List ℕ
  pub records : List Record
  pub run : IsRecorded play table cells records
  pub window : Window
  pub chosen : IsWindow from steps records window
  pub title : List (Vec ℕ Global)
  pub picture : IsPicture title table cells records window text

-- Why no picture has these steps: they were not chosen one by one, and are too many; or the play ends before the first of them.
abbrev pub IsUnchosen : (from : ℕ) → (steps : Option ℕ) → List Record → DrawFault → Type 0
IsUnchosen from steps records (draw.Play fault) = ⊥
IsUnchosen from steps records draw.TooLong = ⊥
IsUnchosen from steps records draw.TooMany = (steps ≡ None) × (MAX_STEPS < count_from from records)
IsUnchosen from steps records draw.NoStep = (1 < from) × (count_from from records ≡ 0)

pub record HasNoPicture (play : Play) (from : ℕ) (steps : Option ℕ) (fault : DrawFault) : Type 0 where
  pub table : Shape
  pub cells : List ℕ
  pub records : List Record
  pub run : IsRecorded play table cells records
  pub why : IsUnchosen from steps records fault

-- a picture of the play that the bytes say
abbrev pub IsDrawnOf : (bytes : Option (List ℕ)) (from : ℕ) (steps : Option ℕ) (text : List ℕ) → Type 0
IsDrawnOf bytes from steps text = (play : Play) × IsPlayRead bytes play × IsDrawn play from steps text

-- Nothing was drawn.
abbrev pub IsUndrawn : (bytes : Option (List ℕ)) (from : ℕ) (steps : Option ℕ) → DrawFault → Type 0
IsUndrawn bytes from steps (draw.Play fault) = IsUnrun bytes fault
IsUndrawn bytes from steps draw.TooLong = (play : Play) × IsPlayRead bytes play × IsLong play
IsUndrawn bytes from steps draw.TooMany = (play : Play) × IsPlayRead bytes play × HasNoPicture play from steps draw.TooMany
IsUndrawn bytes from steps draw.NoStep = (play : Play) × IsPlayRead bytes play × HasNoPicture play from steps draw.NoStep

-- The picture or a front of it was written; or none was drawn.
abbrev pub DrawsPlay : {X : Type 0} → (from : ℕ) (steps : Option ℕ) (bytes old new : Option (List ℕ)) → Result X DrawFault → Type 0
DrawsPlay from steps bytes old new (Ok x) = (text : List ℕ) × IsDrawnOf bytes from steps text × Appends old new text
DrawsPlay from steps bytes old new (Err (draw.Play plays.Write)) = (text : List ℕ) × IsDrawnOf bytes from steps text × AppendsFront old new text
DrawsPlay from steps bytes old new (Err fault) = IsUndrawn bytes from steps fault
