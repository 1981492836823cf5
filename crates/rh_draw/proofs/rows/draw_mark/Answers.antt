use Rattle.rh_draw.proofs.Showing.{element_ok, wrapped_ok}
use Rattle.std.proofs.Common.{refl}
use Rattle.rh_svg.specs.declared.tags.Tag.TheVariants.{Mark}
use Rattle.rh_draw.proofs.rows.draw_mark.Goals as goal

pub returns : goal.returns
returns c = rw (← c.lane_x.ensures)
    (element_ok _ _ (Mark c.lane_x.result c.args.y c.args.step.now.kind) _ _ refl refl refl
    (wrapped_ok _ _ _ _ (Mark c.lane_x.result c.args.y c.args.step.now.kind) _ _ c.in_ok-open.ensures c.in_ok-say_step.ensures c.close.ensures))
