use Rattle.std.proofs.Common.{◌≡◌, refl, get_or, replicate, rules}
use Rattle.std.proofs.lemmas.Result.{err_from_is_err_and}
use Rattle.rh_bytes.specs.Input.{eight_bytes}
use Rattle.rh_key_files.proofs.Written.{eight_written, key_stops}
use Rattle.rh_key_files.proofs.encoding.put_keys.Goals as goal

pub returns-in_err-write_text : goal.returns-in_err-write_text
returns-in_err-write_text g c =
    let p = err_from_is_err_and c.from_residual.result c.from_residual.ensures.1 in
    let i = c.loop-key.key-index in
    let key : c.write_u64.new.buf ≡ eight_bytes (get_or c.args.keys.now i 0) = eight_written _ (replicate 8 0) _ refl c.write_u64.ensures in
    rw p.1 (key_stops _ _ _ c.args.keys.now i _ (search rules) key c.loop-key.invariant c.in_err-write_text.ensures)
