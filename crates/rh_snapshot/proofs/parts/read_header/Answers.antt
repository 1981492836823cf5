use Rattle.std.proofs.Common.{refl}
use Rattle.std.proofs.lemmas.Result.{err_from_is_err_and}
use Rattle.rh_bytes.proofs.Parts.{part_fails, part_is, part_then}
use Rattle.rh_bytes.proofs.Taking.{takes_then}
use Rattle.rh_snapshot.specs.Reading.{after_bits, after_snap_version, snap_header_at, with_snap_count}
use Rattle.rh_snapshot.proofs.Bounds.{header_stops_at_bits, header_stops_at_count, header_taken_whole, magic_stops}
use Rattle.rh_snapshot.proofs.parts.read_header.Goals as goal

pub returns-in_err-version-clause-reads : goal.returns-in_err-version-clause-reads
unfolding snap_header_at
returns-in_err-version-clause-reads g c =
    let p = err_from_is_err_and c.from_residual.result c.from_residual.ensures.1 in
    let version = c.in_err-version.ensures in
    rw (p.1, p.2) (part_fails after_snap_version version (magic_stops _ _ _ version.takes))

pub returns-in_err-bits-clause-reads : goal.returns-in_err-bits-clause-reads
unfolding snap_header_at
returns-in_err-bits-clause-reads g c =
    let p = err_from_is_err_and c.from_residual-in_err-bits.result c.from_residual-in_err-bits.ensures.1 in
    let version = c.in_ok-version.ensures in
    let bits = c.in_err-bits.ensures.reads in
    rw (p.1, p.2) (part_then after_snap_version version (part_fails (after_bits c.in_ok-version.version) bits bits.takes) (header_stops_at_bits _ _ _ _ _ version.takes bits.takes bits.known))

pub returns-in_err-count-clause-reads : goal.returns-in_err-count-clause-reads
unfolding snap_header_at
returns-in_err-count-clause-reads g c =
    let p = err_from_is_err_and c.from_residual-in_err-count.result c.from_residual-in_err-count.ensures.1 in
    let version = c.in_ok-version.ensures in
    let bits = c.in_ok-bits.ensures.reads in
    let count = c.in_err-count.ensures in
    rw (p.1, p.2) (part_then after_snap_version version
    (part_then (after_bits c.in_ok-version.version) bits (part_fails (with_snap_count c.in_ok-version.version c.in_ok-bits.bits) count count.takes) (takes_then _ _ _ 1 8 bits.takes count.takes))
    (header_stops_at_count _ _ _ _ _ version.takes bits.takes count.takes count.known))

pub returns-clause-reads : goal.returns-clause-reads
unfolding snap_header_at
returns-clause-reads g c =
    let version = c.in_ok-version.ensures in
    let bits = c.in_ok-bits.ensures.reads in
    let count = c.in_ok-count.ensures in
    part_then after_snap_version version
    (part_then (after_bits c.in_ok-version.version) bits (part_is (with_snap_count c.in_ok-version.version c.in_ok-bits.bits) count (λ bytes. refl)) (takes_then _ _ _ 1 8 bits.takes count.takes))
    (header_taken_whole _ _ _ _ version.takes bits.takes count.takes)
