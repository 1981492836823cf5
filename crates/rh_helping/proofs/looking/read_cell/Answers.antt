use Rattle.rh_helping.specs.Next.Looked.{On, Sees}
use Rattle.rh_helping.specs.Seen.{looking_at}
use Rattle.rh_words.specs.Words.{cell_in}
use Rattle.rh_helping.proofs.Looks.{looks, may_look, reads_other, reads_plain}
use Rattle.rh_helping.proofs.Made.{stepped}
use Rattle.rh_helping.proofs.looking.read_cell.Goals as goal

pub returns-in-Some : goal.returns-in-Some
returns-in-Some g c =
    let z = c.args.shape.now in
    let v = c.args.side.now.known.view in
    let word = c.make-word.result in
    let r = reads_plain z v c.args.cell word c.requires.looking _ c.in-Some.ensures.1 c.make-word.ensures.finds in record {
      made = stepped z _ _ v _ _ _ _ _ r.0 (may_look z v c.args.cell word c.requires.relies.now.knows c.requires.cell) c.make-word.ensures;
      leads = looks z _ _ (Sees word) c.make-word.ensures.view_is r.1;
      ends = λ is. cc;
    }

pub returns-in-None : goal.returns-in-None
returns-in-None g c =
    let z = c.args.shape.now in
    let v = c.args.side.now.known.view in
    let word = c.make-word.result in
    let r = reads_other z v c.args.cell word c.requires.looking c.make-word.ensures.finds c.in-None.ensures in record {
      made = stepped z _ _ v _ _ _ _ _ r.0.0 (may_look z v c.args.cell word c.requires.relies.now.knows c.requires.cell) c.make-word.ensures;
      leads = looks z _ _ (On (looking_at (cell_in word) c.args.cell)) c.make-word.ensures.view_is r.0.1;
      ends = r.1;
    }
