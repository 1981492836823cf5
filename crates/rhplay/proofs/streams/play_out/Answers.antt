use Rattle.std.proofs.Common.{subst}
use Rattle.std.specs.Io.Buffered.{writer_contents}
use Rattle.rh_bytes.specs.Counting.{inner_of}
use Rattle.rh_play_run.specs.Run.{TellsPlay}
use Rattle.rh_streams.proofs.EndingLemmas.{ends_with, told_as_tells}
use Rattle.rhplay.proofs.streams.play_out.Goals as goal

pub returns : goal.returns
returns g c =
    let left = inner_of c.tell_play-told.new.writer in
    ends_with g.W.Write.contents left c.into_inner.result _ _ _
    (subst (λ w. TellsPlay c.args.telling (g.R.Read.remaining (inner_of c.args.reader.now)) (writer_contents g.W.Write.contents w) (writer_contents g.W.Write.contents left) c.tell_play-told.result) c.new-writer.ensures.inner c.tell_play-told.ensures.tells)
    c.into_inner.ensures (told_as_tells _ _ _ c.playing.ensures) c.finish.ensures
