use Rattle.std.proofs.Common.{subst, map, string_bytes}
use Rattle.std.specs.Io.Buffered.{writer_contents}
use Rattle.rh_bytes.specs.Counting.{inner_of}
use Rattle.rh_key_texts.specs.Files.{ListsFiles}
use Rattle.rh_streams.proofs.EndingLemmas.{ends_with}
use Rattle.rh_pack_program.proofs.streams.list_out.Goals as goal

pub returns : goal.returns
returns g c =
    let left = inner_of c.list_files-listed.new.writer in
    let listed : ListsFiles (g.S.Lender.state c.args.shelf.now).files c.args.form (map string_bytes c.deref.result.now) (writer_contents g.W.Write.contents c.args.writer) (writer_contents g.W.Write.contents left) c.list_files-listed.result
    = subst (λ w. ListsFiles (g.S.Lender.state c.args.shelf.now).files c.args.form (map string_bytes c.deref.result.now) (writer_contents g.W.Write.contents w) (writer_contents g.W.Write.contents left) c.list_files-listed.result) c.new-writer.ensures.inner c.list_files-listed.ensures.listed in
    ends_with g.W.Write.contents left c.into_inner.result _ _ _
    (subst (λ paths. ListsFiles (g.S.Lender.state c.args.shelf.now).files c.args.form (map string_bytes paths) (writer_contents g.W.Write.contents c.args.writer) (writer_contents g.W.Write.contents left) c.list_files-listed.result) c.deref.ensures.value listed)
    c.into_inner.ensures c.listing.ensures c.finish.ensures
