use Rattle.std.proofs.Common.{Err, ap, rules}
use Rattle.std.proofs.lemmas.Result.{err_from_is_err_and}
use Rattle.rh_bytes.specs.Counting.{inner_of}
use Rattle.rh_bytes.specs.declared.counted.Counted.{Counted}
use Rattle.rh_key_texts.proofs.Listed.{held_ends, held_stops, keys_end, keys_stop}
use Rattle.rh_key_texts.proofs.files.list_form.Goals as goal

pub returns-in_err-list_keys-in-Keys-clause-listed : goal.returns-in_err-list_keys-in-Keys-clause-listed
returns-in_err-list_keys-in-Keys-clause-listed g c files path finds =
    let p = err_from_is_err_and c.from_residual.result c.from_residual.ensures.1 in
    rw (p.1, p.2) (keys_stop files path c.args.form _ _ _ _ c.in_err-list_keys-in-Keys.field-0.0 (search rules) finds (λ other. ap (λ (w : Counted g.row.W.Denot). g.W.Write.contents (inner_of w)) (c.in_err-list_keys-in-Keys.ensures.writes.untouched other)) (λ memory. c.in_err-list_keys-in-Keys.ensures.memory (ap Err memory)) c.in_err-list_keys-in-Keys.ensures.listed)

pub returns-in_err-list_snapshot-in-Snapshot-clause-listed : goal.returns-in_err-list_snapshot-in-Snapshot-clause-listed
returns-in_err-list_snapshot-in-Snapshot-clause-listed g c files path finds =
    let p = err_from_is_err_and c.from_residual-in_err-list_snapshot-in-Snapshot.result c.from_residual-in_err-list_snapshot-in-Snapshot.ensures.1 in
    rw (p.1, p.2) (held_stops files path c.args.form _ _ _ _ c.in_err-list_snapshot-in-Snapshot.field-0.0 (search rules) finds (λ other. ap (λ (w : Counted g.row.W.Denot). g.W.Write.contents (inner_of w)) (c.in_err-list_snapshot-in-Snapshot.ensures.writes.untouched other)) (λ memory. c.in_err-list_snapshot-in-Snapshot.ensures.memory (ap Err memory)) c.in_err-list_snapshot-in-Snapshot.ensures.listed)

pub returns-in_ok-list_keys-in-Keys-clause-listed : goal.returns-in_ok-list_keys-in-Keys-clause-listed
returns-in_ok-list_keys-in-Keys-clause-listed g c files path finds = keys_end files path c.args.form _ _ _ _ (search rules) finds c.in_ok-list_keys-in-Keys.ensures.listed

pub returns-in_ok-list_snapshot-in-Snapshot-clause-listed : goal.returns-in_ok-list_snapshot-in-Snapshot-clause-listed
returns-in_ok-list_snapshot-in-Snapshot-clause-listed g c files path finds = held_ends files path c.args.form _ _ _ _ (search rules) finds c.in_ok-list_snapshot-in-Snapshot.ensures.listed
