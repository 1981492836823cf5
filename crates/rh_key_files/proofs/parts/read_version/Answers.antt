use Rattle.std.proofs.Common.{rules}
use Rattle.std.proofs.lemmas.Result.{err_from_is_err_and}
use Rattle.rh_bytes.proofs.Parts.{part_fails, part_is, part_is_not, part_of}
use Rattle.rh_key_files.specs.Reading.{named, version_at}
use Rattle.rh_key_files.proofs.parts.read_version.Goals as goal

pub returns-in_err-read_bytes : goal.returns-in_err-read_bytes
unfolding version_at
returns-in_err-read_bytes g c =
    let p = err_from_is_err_and c.from_residual.result c.from_residual.ensures.1 in
    let four = part_of _ _ 4 c.in_err-read_bytes.ensures (search rules) in
    rw (p.1, p.2) (part_fails named four four.takes)

pub returns-then-eq : goal.returns-then-eq
unfolding version_at
returns-then-eq g c = part_is named (part_of _ _ 4 c.in_ok-read_bytes.ensures (search rules)) (λ bytes. search rules)

pub returns-then-eq-2 : goal.returns-then-eq-2
unfolding version_at
returns-then-eq-2 g c = part_is named (part_of _ _ 4 c.in_ok-read_bytes.ensures (search rules)) (λ bytes. search rules)

pub returns : goal.returns
unfolding version_at
returns g c = part_is_not named (part_of _ _ 4 c.in_ok-read_bytes.ensures (search rules)) (λ bytes. search rules) (λ is. cc) (λ is. cc)
