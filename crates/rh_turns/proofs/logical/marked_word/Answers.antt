use Rattle.std.proofs.Common.{sym, subst, ◌∙◌}
use Rattle.rh_world.proofs.Updated.{some_not_none}
use Rattle.rh_helping.specs.Held.{IsHeld}
use Rattle.rh_turns.specs.Readable.{views_of}
use Rattle.rh_turns.proofs.HeldCells.{held_at, marks_it, noted_old, numbered_at}
use Rattle.rh_turns.proofs.logical.marked_word.Goals as goal

pub unreachable-requires : goal.unreachable-requires
unreachable-requires c =
    let hands = c.args.hands.now in
    let v = c.args.mark.worker in
    let k = views_of hands v in
    let held = subst (IsHeld k) c.in-None.is (held_at hands c.requires.workers v c.index-hands-mark.result c.requires.within c.owed_cell.result c.owed_cell.ensures) in
    some_not_none c.args.mark.number (sym c.requires.unsettled ∙ held.0)

pub returns : goal.returns
returns c cell d mark =
    let hands = c.args.hands.now in
    let v = c.args.mark.worker in
    let k = views_of hands v in
    let held = subst (IsHeld k) c.in-Some.is (held_at hands c.requires.workers v c.index-hands-mark.result c.requires.within c.owed_cell.result c.owed_cell.ensures) in
    let it = marks_it k v (numbered_at hands c.requires.workers v c.index-hands-mark.result c.requires.within) c.in-Some.owed held c.args.mark.number d cell mark in
    record { desc = d; names = it.1; old = noted_old k c.in-Some.owed d cell it.0 }
