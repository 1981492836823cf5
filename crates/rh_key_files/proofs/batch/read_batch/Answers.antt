use Rattle.std.proofs.Common.{◌++◌, ◌≡◌, length, drop, arith, rules, length-append, length-drop, ◌∙◌}
use Rattle.std.proofs.lemmas.Result.{err_from_is_err_and}
use Rattle.rh_key_files.proofs.Next.{end_fails, end_comes, keys_fail, keys_come, keys_cut}
use Rattle.rh_key_files.proofs.batch.read_batch.Goals as goal

pub returns-in_err-read_end-clause-reads : goal.returns-in_err-read_end-clause-reads
returns-in_err-read_end-clause-reads g c =
    let p = err_from_is_err_and c.from_residual.result c.from_residual.ensures.1 in
    rw (p.1, p.2) (record { known = end_fails _ _ _ _ _ _ _ _ _ c.if-left-eq0.true c.in_err-read_end.ensures.known; takes = search rules; counts = search rules })

pub returns-then-left-eq0-clause-reads : goal.returns-then-left-eq0-clause-reads
returns-then-left-eq0-clause-reads g c =
    record { known = end_comes _ _ _ _ _ _ _ c.if-left-eq0.true c.in_ok-read_end.ensures.known; takes = search rules; counts = search rules }

pub returns-in_err-read_keys-clause-reads : goal.returns-in_err-read_keys-clause-reads
returns-in_err-read_keys-clause-reads g c =
    let p = err_from_is_err_and c.from_residual-in_err-read_keys.result c.from_residual-in_err-read_keys.ensures.1 in
    let len : length c.read_keys.new.batch ≡ c.min-many.result = search rules in
    let whole : length (c.read_keys.new.batch ++ drop c.min-many.result c.args.batch.now) ≡ length c.args.batch.now = omega (arith, len, length-append c.read_keys.new.batch (drop c.min-many.result c.args.batch.now), length-drop c.min-many.result c.args.batch.now, c.min-many.ensures) in
    rw (p.1, p.2) (record {
      known = keys_fail _ _ _ _ (length c.read_keys.new.batch) _ _ _ _ _ (search rules) (rw whole (len ∙ c.min-many.ensures)) c.in_err-read_keys.ensures.run.known;
      takes = search rules;
      counts = search rules;
    })

pub returns-clause-reads : goal.returns-clause-reads
returns-clause-reads g c =
    let len : length c.read_keys.new.batch ≡ c.min-many.result = search rules in
    let whole : length (c.read_keys.new.batch ++ drop c.min-many.result c.args.batch.now) ≡ length c.args.batch.now = omega (arith, len, length-append c.read_keys.new.batch (drop c.min-many.result c.args.batch.now), length-drop c.min-many.result c.args.batch.now, c.min-many.ensures) in
    record {
      known = keys_come c.args.version c.args.index c.args.left _ c.min-many.result _ _ c.read_keys.new.batch (drop c.min-many.result c.args.batch.now) (search rules) (rw whole c.min-many.ensures) len c.in_ok-read_keys.ensures.run.known;
      takes = search rules;
      counts = search rules;
    }

pub returns-in_err-read_keys-clause-tested : goal.returns-in_err-read_keys-clause-tested
returns-in_err-read_keys-clause-tested g c =
    let p = err_from_is_err_and c.from_residual-in_err-read_keys.result c.from_residual-in_err-read_keys.ensures.1 in
    let len : length c.read_keys.new.batch ≡ c.min-many.result = search rules in
    let whole : length (c.read_keys.new.batch ++ drop c.min-many.result c.args.batch.now) ≡ length c.args.batch.now = omega (arith, len, length-append c.read_keys.new.batch (drop c.min-many.result c.args.batch.now), length-drop c.min-many.result c.args.batch.now, c.min-many.ensures) in
    rw (p.1, p.2) (λ failed some. keys_cut _ _ _ _ (length c.read_keys.new.batch) _ _ some (rw whole (len ∙ c.min-many.ensures)) (c.in_err-read_keys.ensures.run.tested (search failed)))
