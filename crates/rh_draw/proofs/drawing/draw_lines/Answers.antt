use Rattle.rh_draw.proofs.Showing.{both}
use Rattle.std.proofs.Common.{append-nil, append_assoc}
use Rattle.rh_draw.proofs.drawing.draw_lines.Goals as goal

pub returns : goal.returns
returns c =
    let notices = c.in_ok-draw_notices.ensures in (
      notices.0,
      notices.1,
      simp (append-nil, append_assoc)
          at (both (both (both notices.2 c.in_ok-draw_rows.ensures) c.in_ok-draw_rounds.ensures) c.in_ok-draw_all_heads.ensures),
    )
