use Rattle.std.proofs.Common.{subst}
use Rattle.std.specs.Io.Buffered.{writer_contents}
use Rattle.rh_bytes.specs.Counting.{inner_of}
use Rattle.rh_commands.specs.Dump.{Dumps}
use Rattle.rh_streams.proofs.EndingLemmas.{ends_with, told_as_tells}
use Rattle.rh_set_program.proofs.streams.dump_out.Goals as goal

pub returns : goal.returns
returns g c =
    let left = inner_of c.dump_keys-dumped.new.writer in
    ends_with g.W.Write.contents left c.into_inner.result _ _ _
    (subst (λ w. Dumps (g.R.Read.remaining (inner_of c.args.reader.now)) (g.R.Read.remaining (inner_of c.dump_keys-dumped.new.reader)) (writer_contents g.W.Write.contents w) (writer_contents g.W.Write.contents left) c.dump_keys-dumped.result) c.new-writer.ensures.inner c.dump_keys-dumped.ensures.dumped)
    c.into_inner.ensures (told_as_tells _ _ _ c.dumping.ensures) c.finish.ensures
