use Rattle.std.proofs.Common.{ap, ◌∙◌, sym, subst}
use Rattle.rh_helping.specs.Opening.{IsOpening, opening_step}
use Rattle.rh_helping.proofs.Opens.{asks_cell, asks_new, asks_old}
use Rattle.rh_helping.proofs.opening.Opening.request.Goals as goal

pub returns-in-Cell : goal.returns-in-Cell
returns-in-Cell c =
    let v = c.args.side.now.known.view in
    let h = subst (IsOpening v c.args.entries.now) c.in-Cell.is c.requires.opening in
    asks_cell v c.args.entries.now c.in-Cell.at _ c.args.side.now.same_worker h.0 ∙ ap (opening_step v c.args.entries.now) (sym c.in-Cell.is)

pub returns-in-Old : goal.returns-in-Old
returns-in-Old c =
    let v = c.args.side.now.known.view in
    let h = subst (IsOpening v c.args.entries.now) c.in-Old.is c.requires.opening in
    asks_old v c.args.entries.now c.in-Old.at _ c.args.side.now.same_worker h.0 ∙ ap (opening_step v c.args.entries.now) (sym c.in-Old.is)

pub returns-in-New : goal.returns-in-New
returns-in-New c =
    let v = c.args.side.now.known.view in
    let h = subst (IsOpening v c.args.entries.now) c.in-New.is c.requires.opening in
    asks_new v c.args.entries.now c.in-New.at _ c.args.side.now.same_worker h.0 ∙ ap (opening_step v c.args.entries.now) (sym c.in-New.is)
