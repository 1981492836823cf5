use Rattle.std.proofs.Common.{refl}
use Rattle.std.proofs.lemmas.Bool.{le-ltb, lt-ltb}
use Rattle.std.proofs.lemmas.Result.{err_from_is_err_and}
use Rattle.rh_layout.specs.declared.limits.TheConstants.{MAX_KEYS}
use Rattle.rh_bytes.proofs.Parts.{part_fails, part_is, part_is_not}
use Rattle.rh_key_files.specs.Reading.{count_at, few}
use Rattle.rh_key_files.proofs.parts.read_count.Goals as goal

pub returns-in_err-count-clause-reads : goal.returns-in_err-count-clause-reads
unfolding count_at
returns-in_err-count-clause-reads g c =
    let p = err_from_is_err_and c.from_residual.result c.from_residual.ensures.1 in
    rw (p.1, p.2) (part_fails few c.in_err-count.ensures c.in_err-count.ensures.takes)

pub returns-then-count-gt-MAX_KEYS-clause-reads : goal.returns-then-count-gt-MAX_KEYS-clause-reads
unfolding count_at
returns-then-count-gt-MAX_KEYS-clause-reads g c =
    part_is_not few c.in_ok-count.ensures (λ bytes. rw (lt-ltb MAX_KEYS _ c.if-count-gt-MAX_KEYS.true) refl) (λ is. cc) (λ is. cc)

pub returns-clause-reads : goal.returns-clause-reads
unfolding count_at
returns-clause-reads g c = part_is few c.in_ok-count.ensures (λ bytes. rw (le-ltb MAX_KEYS _ c.if-count-gt-MAX_KEYS.false) refl)
