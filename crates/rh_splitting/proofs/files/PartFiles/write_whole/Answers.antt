use Rattle.std.proofs.Common.{rules, subst}
use Rattle.std.proofs.lemmas.Result.{err_from_is_err_and}
use Rattle.std.specs.Prelude.{All}
use Rattle.rh_splitting.specs.Parts.{IsBegun}
use Rattle.rh_splitting.proofs.IntoFiles.{cannot_read, none_read, of_writing, reads_later, reads_on, split_stops, unread_stops, whole_read}
use Rattle.rh_splitting.proofs.files.PartFiles.write_whole.Goals as goal

pub returns-in_err-try_source-clause-split : goal.returns-in_err-try_source-clause-split
returns-in_err-try_source-clause-split g c =
    let p = err_from_is_err_and c.from_residual.result c.from_residual.ensures.1 in
    rw (p.1, p.2) (unread_stops c.args.source _ _ c.args.count _ c.in_err-try_source.ensures.told c.in_err-try_source.ensures.kept)

pub returns-in_err-try_source-clause-reads : goal.returns-in_err-try_source-clause-reads
returns-in_err-try_source-clause-reads g c =
    let p = err_from_is_err_and c.from_residual.result c.from_residual.ensures.1 in
    rw (p.1, p.2) (cannot_read _ c.args.source _ _ _ c.in_err-try_source.ensures.told c.in_err-try_source.ensures.kept c.in_err-try_source.ensures.failed)

pub returns-in_err-parts-clause-reads : goal.returns-in_err-parts-clause-reads
returns-in_err-parts-clause-reads g c =
    reads_on _ c.args.source _ _ c.from_residual-in_err-parts.result (search rules) (none_read _ c.args.source _ _ c.in_ok-try_source.ensures.kept c.in_ok-try_source.ensures.fine)

pub returns-in_err-split_source-clause-split : goal.returns-in_err-split_source-clause-split
returns-in_err-split_source-clause-split g c =
    let p = err_from_is_err_and c.from_residual-in_err-split_source.result c.from_residual-in_err-split_source.ensures.1 in
    rw (p.1, p.2) (split_stops _ c.args.source _ _ _ c.args.count _ _ _ (search rules) (subst (All IsBegun) (search rules) c.in_ok-parts.ensures.begun) c.in_ok-try_source.ensures.kept c.in_err-split_source.ensures.split)

pub returns-in_err-split_source-clause-reads : goal.returns-in_err-split_source-clause-reads
returns-in_err-split_source-clause-reads g c =
    let p = err_from_is_err_and c.from_residual-in_err-split_source.result c.from_residual-in_err-split_source.ensures.1 in
    rw (p.1, p.2) (reads_later _ c.args.source _ _ _ _ c.in_ok-try_source.ensures.kept c.in_ok-try_source.ensures.fine c.in_err-split_source.ensures.reads)

pub returns-in_err-end_all-clause-split : goal.returns-in_err-end_all-clause-split
returns-in_err-end_all-clause-split g c =
    whole_read _ c.args.source _ _ _ c.args.count _ _ _ c.from_residual-in_err-end_all.result (search rules) c.in_ok-try_source.ensures.kept c.in_ok-split_source.ensures.split

pub returns-in_err-end_all-clause-reads : goal.returns-in_err-end_all-clause-reads
returns-in_err-end_all-clause-reads g c =
    reads_on _ c.args.source _ _ c.from_residual-in_err-end_all.result (of_writing _ (search rules)) (reads_later _ c.args.source _ _ _ _ c.in_ok-try_source.ensures.kept c.in_ok-try_source.ensures.fine c.in_ok-split_source.ensures.reads)

pub returns-clause-split : goal.returns-clause-split
returns-clause-split g c = whole_read _ c.args.source _ _ _ c.args.count _ _ _ c.place_all.result (search rules) c.in_ok-try_source.ensures.kept c.in_ok-split_source.ensures.split

pub returns-clause-reads : goal.returns-clause-reads
returns-clause-reads g c =
    reads_on _ c.args.source _ _ c.place_all.result (of_writing _ (search rules)) (reads_later _ c.args.source _ _ _ _ c.in_ok-try_source.ensures.kept c.in_ok-try_source.ensures.fine c.in_ok-split_source.ensures.reads)
