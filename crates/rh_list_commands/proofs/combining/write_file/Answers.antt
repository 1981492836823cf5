use Rattle.std.proofs.lemmas.Result.{err_from_is_err_and}
use Rattle.rh_bytes.proofs.Writing.{emitted_longer, emitted_then}
use Rattle.rh_key_files.specs.KeyFile.{header}
use Rattle.rh_key_files.specs.declared.version.Version.TheVariants.{Second}
use Rattle.rh_list_commands.proofs.combining.write_file.Goals as goal

pub returns-in_err-write_header : goal.returns-in_err-write_header
returns-in_err-write_header g c =
    let p = err_from_is_err_and c.from_residual.result c.from_residual.ensures.1 in
    rw p.1 (emitted_longer _ _ (header Second c.args.count) c.args.keys.now c.in_err-write_header.ensures)

pub returns : goal.returns
returns g c = emitted_then _ _ _ (header Second c.args.count) c.args.keys.now c.write_text.result c.in_ok-write_header.ensures c.write_text.ensures
