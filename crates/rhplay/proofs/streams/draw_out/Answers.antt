use Rattle.std.proofs.Common.{subst}
use Rattle.std.specs.Io.Buffered.{writer_contents}
use Rattle.rh_bytes.specs.Counting.{inner_of}
use Rattle.rh_play_run.specs.Drawing.{DrawsPlay}
use Rattle.rh_streams.proofs.EndingLemmas.{ends_with, told_as_tells}
use Rattle.rhplay.proofs.streams.draw_out.Goals as goal

pub returns : goal.returns
returns g c =
    let left = inner_of c.draw_play-drawn.new.writer in
    ends_with g.W.Write.contents left c.into_inner.result _ _ _
    (subst (λ w. DrawsPlay c.args.from c.args.steps (g.R.Read.remaining (inner_of c.args.reader.now)) (writer_contents g.W.Write.contents w) (writer_contents g.W.Write.contents left) c.draw_play-drawn.result) c.new-writer.ensures.inner c.draw_play-drawn.ensures.draws)
    c.into_inner.ensures (told_as_tells _ _ _ c.drawing.ensures) c.finish.ensures
