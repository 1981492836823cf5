use Rattle.std.proofs.Common.{sym, subst}
use Rattle.rh_world.specs.World.{Cell}
use Rattle.rh_order.specs.Words.{LeadsInside, WordStandsFor}
use Rattle.rh_turns.specs.Readable.{views_of}
use Rattle.rh_turns.proofs.logical.logical_word.Goals as goal

pub returns-in-Mark : goal.returns-in-Mark
returns-in-Mark c =
    let z = c.args.shape.now in
    let words = c.args.words.now in
    let keep = views_of c.args.hands.now in
    let leads = subst (LeadsInside z words keep c.args.cell) (sym c.in-Mark.ensures) c.requires.readable.reads in
    subst (λ (k : Cell). WordStandsFor z words keep c.args.cell k c.marked_word.result) c.in-Mark.ensures (c.marked_word.ensures c.args.cell leads.desc leads.is_for)
