use Rattle.std.proofs.Common.{rules}
use Rattle.std.proofs.lemmas.Result.{err_from_is_err_and}
use Rattle.rh_bytes.proofs.Parts.{part_fails, part_is, part_is_not, part_of}
use Rattle.rh_snapshot.specs.Reading.{bits_at, bits_in}
use Rattle.rh_snapshot.proofs.parts.read_bits.Goals as goal

pub returns-in_err-read_bytes-clause-reads : goal.returns-in_err-read_bytes-clause-reads
unfolding bits_at
returns-in_err-read_bytes-clause-reads g c =
    let p = err_from_is_err_and c.from_residual.result c.from_residual.ensures.1 in
    let one = part_of _ _ 1 c.in_err-read_bytes.ensures (search rules) in
    rw (p.1, p.2) (part_fails (bits_in c.args.version) one one.takes)

pub returns-then-not-allows-clause-reads : goal.returns-then-not-allows-clause-reads
unfolding bits_at
returns-then-not-allows-clause-reads g c =
    part_is_not (bits_in c.args.version) (part_of _ _ 1 c.in_ok-read_bytes.ensures (search rules)) (λ bytes. search rules) (λ is. cc) (λ is. cc)

pub returns-clause-reads : goal.returns-clause-reads
unfolding bits_at
returns-clause-reads g c = part_is (bits_in c.args.version) (part_of _ _ 1 c.in_ok-read_bytes.ensures (search rules)) (λ bytes. search rules)
