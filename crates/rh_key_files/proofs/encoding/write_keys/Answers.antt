use Rattle.std.proofs.lemmas.Result.{err_from_is_err_and}
use Rattle.rh_key_files.proofs.Written.{file_stops, file_written}
use Rattle.rh_key_files.proofs.encoding.write_keys.Goals as goal

pub returns-in_err-write_header : goal.returns-in_err-write_header
returns-in_err-write_header g c =
    let p = err_from_is_err_and c.from_residual.result c.from_residual.ensures.1 in
    rw p.1 (file_stops _ _ c.args.keys.now c.in_err-write_header.ensures)

pub returns : goal.returns
returns g c = file_written _ _ _ c.args.keys.now c.put_keys.result c.in_ok-write_header.ensures c.put_keys.ensures
