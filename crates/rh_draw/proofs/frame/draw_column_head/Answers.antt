use Rattle.rh_draw.proofs.Showing.{a_column, element_ok, no_column, nothing}
use Rattle.std.proofs.Common.{◌≡◌, ◌≢◌, slice_index, refl, arith}
use Rattle.rh_draw.proofs.frame.draw_column_head.Goals as goal

pub returns-then-at-eq0 : goal.returns-then-at-eq0
returns-then-at-eq0 c =
    let none : slice_index c.args.view.now.flags.items c.args.cell ≡ 0 = cc in rw (no_column _ _ none) (nothing _)

pub returns : goal.returns
returns c =
    let is : c.at.result ≡ slice_index c.args.view.now.flags.items c.args.cell = rw c.deref.ensures.value at c.at.ensures in
    let some : slice_index c.args.view.now.flags.items c.args.cell ≢ 0 = omega arith in
    rw (a_column _ _ some) (element_ok _ _ _ _ _ refl refl refl c.count.ensures)
