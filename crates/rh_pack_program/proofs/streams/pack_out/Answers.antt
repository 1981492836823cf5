use Rattle.std.proofs.Common.{subst}
use Rattle.std.specs.Io.Buffered.{writer_contents}
use Rattle.rh_bytes.specs.Counting.{inner_of}
use Rattle.rh_key_texts.specs.Pack.{Packs}
use Rattle.rh_streams.proofs.EndingLemmas.{ends_with}
use Rattle.rh_pack_program.proofs.streams.pack_out.Goals as goal

pub returns : goal.returns
returns g c =
    let left = inner_of c.pack-packed.new.writer in
    ends_with g.W.Write.contents left c.into_inner.result _ _ _
    (subst (λ w. Packs (g.R.Read.remaining (inner_of c.args.reader.now)) (g.R.Read.remaining (inner_of c.pack-packed.new.reader)) (writer_contents g.W.Write.contents w) (writer_contents g.W.Write.contents left) c.pack-packed.result) c.new-writer.ensures.inner c.pack-packed.ensures.packed)
    c.into_inner.ensures c.packing.ensures c.finish.ensures
