use Rattle.rh_draw.proofs.Changed.{none_listed, one_listed}
use Rattle.rh_draw.proofs.changes.list_entries.Goals.{then-word_at-old+in_ok-push, else-word_at-old}
use Rattle.rh_draw.proofs.changes.list_entries.Goals as goal

pub loop-entry-preserved : goal.loop-entry-preserved
loop-entry-preserved c =
    elim c.if-word_at-old.branch [
      | then-word_at-old+in_ok-push w ↦
          rw (w.cells-is, w.in_ok-push.ensures.items, w.word_at-then-word_at-old.ensures)
          (one_listed c.args.shape.now c.args.words.now c.args.worker c.loop-entry.entry _ _ c.loop-entry.invariant
          (rw (c.word_at.ensures, c.word_at-old.ensures) at w.if-word_at-old.true))
      | else-word_at-old w ↦
          rw w.cells-is
          (none_listed c.args.shape.now c.args.words.now c.args.worker c.loop-entry.entry _ _ c.loop-entry.invariant
          (rw (c.word_at.ensures, c.word_at-old.ensures) at w.if-word_at-old.false))
    ]
