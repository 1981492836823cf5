use Rattle.std.proofs.Common.{subst}
use Rattle.std.specs.Io.Buffered.{writer_contents}
use Rattle.rh_bytes.specs.Counting.{inner_of}
use Rattle.rh_commands.specs.Check.{Checks}
use Rattle.rh_streams.proofs.EndingLemmas.{ends_with, told_as_tells}
use Rattle.rh_set_program.proofs.streams.check_out.Goals as goal

pub returns : goal.returns
returns g c =
    let left = inner_of c.check_snapshot-checked.new.writer in
    ends_with g.W.Write.contents left c.into_inner.result _ _ _
    (subst (λ w. Checks (g.R.Read.remaining (inner_of c.args.reader.now)) (g.R.Read.remaining (inner_of c.check_snapshot-checked.new.reader)) (writer_contents g.W.Write.contents w) (writer_contents g.W.Write.contents left) c.check_snapshot-checked.result) c.new-writer.ensures.inner c.check_snapshot-checked.ensures.checked)
    c.into_inner.ensures (told_as_tells _ _ _ c.checking.ensures) c.finish.ensures
