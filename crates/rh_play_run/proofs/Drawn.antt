-- What is drawn of a play that was read and recorded.
use Rattle.std.proofs.Common.{◌≡◌, ℕ, List, Option, Vec, Err, ap, subst}
use Rattle.std.specs.Global.{Global}
use Rattle.std.specs.Prelude.{IsErrOf}
use Rattle.rh_words.specs.declared.shape.Shape.{Shape}
use Rattle.rh_draw.specs.Picture.{IsPicture}
use Rattle.rh_draw.specs.declared.records.Record.{Record}
use Rattle.rh_draw.specs.declared.records.Window.{Window}
use Rattle.rh_play_text.specs.declared.play.Play.{Play}
use Rattle.rh_play_run.specs.declared.draw_fault.DrawFault.{DrawFault}
use Rattle.rh_play_run.specs.declared.draw_fault.DrawFault.TheVariants as draw
use Rattle.rh_play_run.specs.declared.fault.PlayRunFault.{PlayRunFault}
use Rattle.rh_play_run.specs.declared.fault.PlayRunFault.TheVariants.{Memory}
use Rattle.rh_play_run.specs.Drawing.{IsDrawnOf, IsRecorded, IsUnchosen, IsUndrawn, IsWindow}
use Rattle.rh_play_run.specs.Run.{IsPlayRead, IsUnplayed, SaysGoodPlay}
use Rattle.rh_play_run.proofs.Begun.{can_begin}

-- want of memory, told of a play, is told where it is drawn
pub play_memory : (X Y : Type 0) (fault : PlayRunFault) → IsErrOf {T = X} (Err (draw.Play fault)) (draw.Play Memory) → IsErrOf {T = Y} (Err fault) Memory
play_memory X Y fault memory =
    let same : fault ≡ Memory = cc in
    ap (λ (f : PlayRunFault). Err f) same

pub good_play : (X : Type 0) (bytes : Option (List ℕ)) (play : Play) (fault : PlayRunFault) → IsPlayRead bytes play → IsUnplayed play fault → IsErrOf {T = X} (Err (draw.Play fault)) (draw.Play Memory) → SaysGoodPlay bytes
good_play X bytes play fault read why memory =
    let same : fault ≡ Memory = cc in
    (play, read, subst (IsUnplayed play) same why)

pub good_run : (bytes : Option (List ℕ)) (play : Play) (table : Shape) (cells : List ℕ) (records : List Record) → IsPlayRead bytes play → IsRecorded play table cells records → SaysGoodPlay bytes
good_run bytes play table cells records read run = (play, read, can_begin play run.first run.begins)

module _ (bytes : Option (List ℕ)) (from : ℕ) (steps : Option ℕ) (play : Play) (read : IsPlayRead bytes play) where
  module _ (table : Shape) (cells : List ℕ) (records those : List Record) (run : IsRecorded play table cells records) (same : those ≡ records) where
    unchosen_of : (fault : DrawFault) → IsUnchosen from steps records fault → IsUndrawn bytes from steps fault
    unchosen_of (draw.Play fault) why = absurd why
    unchosen_of draw.TooLong why = absurd why
    unchosen_of draw.TooMany why = (play, read, record { table = table; cells = cells; records = records; run = run; why = why })
    unchosen_of draw.NoStep why = (play, read, record { table = table; cells = cells; records = records; run = run; why = why })

    pub unchosen : (fault : DrawFault) → IsUnchosen from steps those fault → IsUndrawn bytes from steps fault
    unchosen fault why = unchosen_of fault (subst (λ (l : List Record). IsUnchosen from steps l fault) same why)

    pub drawn : (these : List ℕ) (again : List Record) (window : Window) (title : List (Vec ℕ Global)) (text : List ℕ) → these ≡ cells → again ≡ records → IsWindow from steps those window
        → IsPicture title table these again window text → IsDrawnOf bytes from steps text
    drawn these again window title text same_cells same_again chosen is = (
      play,
      read,
      record {
        table = table;
        cells = cells;
        records = records;
        run = run;
        window = window;
        chosen = subst (λ (l : List Record). IsWindow from steps l window) same chosen;
        title = title;
        picture =
            subst (λ (l : List Record). IsPicture title table cells l window text) same_again
            (subst (λ (l : List ℕ). IsPicture title table l again window text) same_cells is);
      },
    )
