use Rattle.std.proofs.Common.{◌≡◌, rules, count_by, refl}
use Rattle.std.proofs.lemmas.Result.{err_from_is_err_and}
use Rattle.rh_layout.specs.Key.{is_full}
use Rattle.rh_dump.proofs.Written.{dump_done, dump_stops_early, dump_stops}
use Rattle.rh_dump.proofs.writing.write_dump.Goals as goal

pub returns-in_err-put_head : goal.returns-in_err-put_head
returns-in_err-put_head g c =
    let p = err_from_is_err_and c.from_residual.result c.from_residual.ensures.1 in
    let held : c.count-held.result ≡ count_by is_full c.args.cells.now = search rules in
    rw p.1 (dump_stops_early _ _ c.args.bits _ c.args.cells.now held c.in_err-put_head.ensures)

pub returns-in_err-put_cells : goal.returns-in_err-put_cells
returns-in_err-put_cells g c =
    let p = err_from_is_err_and c.from_residual-in_err-put_cells.result c.from_residual-in_err-put_cells.ensures.1 in
    let held : c.count-held.result ≡ count_by is_full c.args.cells.now = search rules in
    rw p.1 (dump_stops _ _ _ c.args.bits _ c.args.cells.now held c.in_ok-put_head.ensures c.in_err-put_cells.ensures)

pub returns : goal.returns
returns g c =
    let held : c.count-held.result ≡ count_by is_full c.args.cells.now = search rules in
    dump_done _ _ _ _ c.args.bits _ c.args.cells.now _ _ held refl c.in_ok-put_head.ensures c.in_ok-put_cells.ensures c.write_text.ensures
