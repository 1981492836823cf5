use Rattle.std.proofs.Common.{ℕ, refl, rules, subst, sym}
use Rattle.rh_shared.specs.Seats.{sitter_of}
use Rattle.rh_rdcss.specs.Placing.{Tried}
use Rattle.rh_rdcss.proofs.MarkRows.{is_mark_for}
use Rattle.rh_rdcss.proofs.placing.place_there.Goals as goal

pub returns-clause-leaves : goal.returns-clause-leaves
returns-clause-leaves c =
    let z = c.args.table.now.shape in
    let k = sitter_of c.args.seat.now in
    let next = sitter_of c.place_next-found.new.seat in
    let tried = subst (λ (word : ℕ). Tried z c.args.piece c.args.old k word next) c.if-found-old.false c.place_next-found.ensures.tried in
    let side = c.args.seat.now.side in
    record {
      same = search rules;
      knows = search rules;
      mine = λ mine. (_, refl, is_mark_for z k c.args.piece c.args.old c.requires.knows.knows c.requires.knows_it next tried _ (sym side.same_worker) (sym side.same_marks));
      others = search rules;
    }
