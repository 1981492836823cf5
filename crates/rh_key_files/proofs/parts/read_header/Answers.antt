use Rattle.std.proofs.Common.{refl}
use Rattle.std.proofs.lemmas.Result.{err_from_is_err_and}
use Rattle.rh_bytes.proofs.Parts.{part_fails, part_is, part_then}
use Rattle.rh_bytes.proofs.Taking.{takes_then}
use Rattle.rh_key_files.specs.Reading.{after_version, header_at, with_count}
use Rattle.rh_key_files.proofs.Bounds.{header_stops, magic_stops}
use Rattle.rh_key_files.proofs.parts.read_header.Goals as goal

pub returns-in_err-version-clause-reads : goal.returns-in_err-version-clause-reads
unfolding header_at
returns-in_err-version-clause-reads g c =
    let p = err_from_is_err_and c.from_residual.result c.from_residual.ensures.1 in
    let version = c.in_err-version.ensures in
    rw (p.1, p.2) (part_fails after_version version (magic_stops _ _ _ version.takes))

pub returns-in_err-count-clause-reads : goal.returns-in_err-count-clause-reads
unfolding header_at
returns-in_err-count-clause-reads g c =
    let p = err_from_is_err_and c.from_residual-in_err-count.result c.from_residual-in_err-count.ensures.1 in
    let version = c.in_ok-version.ensures in
    let count = c.in_err-count.ensures.reads in
    rw (p.1, p.2) (part_then after_version version (part_fails (with_count c.in_ok-version.version) count count.takes) (header_stops _ _ _ _ version.takes count.takes count.known))

pub returns-clause-reads : goal.returns-clause-reads
unfolding header_at
returns-clause-reads g c =
    let version = c.in_ok-version.ensures in
    let count = c.in_ok-count.ensures.reads in
    part_then after_version version (part_is (with_count c.in_ok-version.version) count (λ bytes. refl)) (takes_then _ _ _ 4 8 version.takes count.takes)
