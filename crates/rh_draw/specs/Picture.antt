-- What a picture of a play shows.
use Rattle.std.specs.Prelude.{◌≡◌, ℕ, ◌<◌, ◌≤◌, List, ◌++◌, length, Vec}
use Rattle.std.specs.Global.{Global}
use Rattle.std.specs.List.{flat_map}
use Rattle.rh_words.specs.declared.shape.Shape.{Shape}
use Rattle.rh_draw.specs.Changing.{opening}
use Rattle.rh_draw.specs.Columns.{ColumnsAreChanges}
use Rattle.rh_draw.specs.Heads.{head_row, repeated, title_lines}
use Rattle.rh_draw.specs.Notices.{AreNotices}
use Rattle.rh_draw.specs.Places.{lane_x}
use Rattle.rh_draw.specs.Reading.{heads, line, lines, mark, marks}
use Rattle.rh_draw.specs.Rows.{at_first, mark_of, row_lines}
use Rattle.rh_draw.specs.declared.legend.TheConstants.{SIGNS}
use Rattle.rh_draw.specs.declared.records.Record.{Record}
use Rattle.rh_draw.specs.declared.records.Window.{Window}
use Rattle.rh_svg.specs.Markup.{Content, Nothing, Element, render}
use Rattle.rh_svg.specs.declared.tags.Tag.{Tag}
use Rattle.rh_svg.specs.declared.tags.Tag.TheVariants.{Svg}

-- what the legend explains
abbrev pub legend_marks : List Tag
legend_marks = flat_map (λ tag. mark tag Nothing) SIGNS.now

abbrev pub legend_lines : List Tag
legend_lines = flat_map (λ tag. line tag Nothing) SIGNS.now

-- The text is a picture of the steps of the window.
pub record IsPicture (title : List (Vec ℕ Global)) (z : Shape) (cells : List ℕ) (given : List Record) (window : Window) (text : List ℕ) : Type 0 where
  pub width : ℕ
  pub height : ℕ
  pub inside : Content
  pub text_is : text ≡ render (Element (Svg width height) inside Nothing)
  -- beside the marks of the legend one for each step of the window, in their order, and no other
  pub marks_are_steps : marks inside ≡ legend_marks ++ flat_map (mark_of window) given
  -- beside those of the legend the lines of decisions and late promotions, across all lanes; then those from steps to the
  -- workers whom they are about, and of rounds
  pub right : ℕ
  pub across : lane_x z.workers ≤ right
  pub notices : List Tag
  pub are_notices : AreNotices z window right (opening z cells) given notices
  pub lines_are : lines inside ≡ legend_lines ++ (notices ++ row_lines window z.workers (at_first z.workers) given)
  pub flags : List ℕ
  pub long : length flags ≡ length cells
  pub columns_are_changes : ColumnsAreChanges z cells given window flags
  -- the title, and the heads of the lanes and of these columns, in their order, and again as often as the picture is long
  pub times : ℕ
  pub some : 0 < times
  pub heads_are : heads inside ≡ title_lines title ++ repeated (head_row z.workers flags) times
