use Rattle.std.proofs.Common.{◌≡◌, ◌*◌, ◌^◌, true, false, Some, None, le_refl, rules}
use Rattle.std.proofs.lemmas.Result.{err_from_is_err_and}
use Rattle.rh_bytes.proofs.Reading.{Reads-begins, read_from}
use Rattle.rh_bytes.proofs.Taking.{takes_then}
use Rattle.rh_snapshot.specs.declared.fault.SnapFault.TheVariants.{Damaged, NotALayout}
use Rattle.rh_snapshot.specs.declared.header.Header.{Header}
use Rattle.rh_snapshot.specs.Reading.{file_table, is_sealed, is_snap_silent, snap_header_at, table_as}
use Rattle.rh_snapshot.specs.Snapshot.{IsSnapshot}
use Rattle.rh_snapshot.specs.Limits.{sealed_bytes, whole_snap_bytes, snap_header_bytes}
use Rattle.rh_snapshot.proofs.Whole.{header_faults, numbers_fault, seal_faults, refused, end_faults, whole_ok, damaged, no_layout, is_good}
use Rattle.rh_snapshot.proofs.Keys.{laid_out}
use Rattle.rh_snapshot.proofs.Grammar.{file_read}
use Rattle.rh_snapshot.proofs.Bounds.{takes_within, takes_sealed, file_stops_in_numbers, file_stops_in_seal, file_stops_at_end}
use Rattle.rh_snapshot.proofs.reading.read_snapshot.Goals as goal

pub returns-in_err-header-clause-reads : goal.returns-in_err-header-clause-reads
returns-in_err-header-clause-reads g c =
    let p = err_from_is_err_and c.from_residual.result c.from_residual.ensures.1 in
    rw (p.1, p.2) (record { known = header_faults table_as _ _ _ c.in_err-header.ensures.reads.known; takes = search rules; counts = search rules; memory = search rules })

pub returns-in_err-numbers-clause-reads : goal.returns-in_err-numbers-clause-reads
returns-in_err-numbers-clause-reads g c =
    let p = err_from_is_err_and c.from_residual-in_err-numbers.result c.from_residual-in_err-numbers.ensures.1 in
    let header = c.in_ok-header.ensures.reads in
    let numbers = c.in_err-numbers.ensures in
    rw (p.1, p.2) (record {
      known = numbers_fault table_as _ c.in_ok-header.header _ _ header.known _ _ numbers.known;
      takes = file_stops_in_numbers _ _ _ _ c.in_ok-header.header _ header.known header.takes numbers.takes numbers.known;
      counts = search rules;
      memory = λ _. Reads-begins is_snap_silent _ _ snap_header_at (λ (h : Header). h) _ header.known;
    })

pub returns-in_err-seal-clause-reads : goal.returns-in_err-seal-clause-reads
returns-in_err-seal-clause-reads g c =
    let p = err_from_is_err_and c.from_residual-in_err-seal.result c.from_residual-in_err-seal.ensures.1 in
    let header = c.in_ok-header.ensures.reads in
    let numbers = c.in_ok-numbers.ensures in
    let seal = c.in_err-seal.ensures in
    rw (p.1, p.2) (record {
      known = seal_faults table_as _ c.in_ok-header.header _ _ header.known _ (c.in_ok-numbers.numbers, c.in_ok-numbers.digest) numbers.known _ _ seal.known;
      takes = file_stops_in_seal _ _ _ _ _ c.in_ok-header.header _ header.known seal.no_memory (takes_then _ _ _ snap_header_bytes (8 * 2 ^ c.in_ok-header.header.bits) header.takes numbers.takes) seal.takes seal.known;
      counts = search rules;
      memory = search rules;
    })

pub returns-then-ne-clause-reads : goal.returns-then-ne-clause-reads
returns-then-ne-clause-reads g c =
    let header = c.in_ok-header.header in
    let begun = c.in_ok-header.ensures.reads in
    let numbers = c.in_ok-numbers.ensures in
    let cells = 2 ^ header.bits in
    let bad : is_sealed header c.in_ok-numbers.numbers.items c.in_ok-seal.seal ≡ false = search rules in
    record {
      known = refused table_as _ header _ _ begun.known _ (c.in_ok-numbers.numbers, c.in_ok-numbers.digest) numbers.known _ c.in_ok-seal.seal c.in_ok-seal.ensures.known _ (damaged header _ c.in_ok-seal.seal bad);
      takes = takes_within _ _ _ header (sealed_bytes cells) (Some Damaged) begun.known (takes_sealed _ _ _ _ cells begun.takes numbers.takes c.in_ok-seal.ensures.takes) (le_refl (sealed_bytes cells));
      counts = search rules;
      memory = search rules;
    }

pub returns-in_default-clause-reads : goal.returns-in_default-clause-reads
returns-in_default-clause-reads g c =
    let header = c.in_ok-header.header in
    let begun = c.in_ok-header.ensures.reads in
    let numbers = c.in_ok-numbers.ensures in
    let cells = 2 ^ header.bits in
    let good : is_sealed header c.in_ok-numbers.numbers.items c.in_ok-seal.seal ≡ true = search rules in
    record {
      known = refused table_as _ header _ _ begun.known _ (c.in_ok-numbers.numbers, c.in_ok-numbers.digest) numbers.known _ c.in_ok-seal.seal c.in_ok-seal.ensures.known _ (no_layout header _ c.in_ok-seal.seal good (search rules));
      takes = takes_within _ _ _ header (sealed_bytes cells) (Some NotALayout) begun.known (takes_sealed _ _ _ _ cells begun.takes numbers.takes c.in_ok-seal.ensures.takes) (le_refl (sealed_bytes cells));
      counts = search rules;
      memory = search rules;
    }

pub returns-in_err-read_end-clause-reads : goal.returns-in_err-read_end-clause-reads
returns-in_err-read_end-clause-reads g c =
    let p = err_from_is_err_and c.from_residual-in_err-read_end.result c.from_residual-in_err-read_end.ensures.1 in
    let header = c.in_ok-header.header in
    let begun = c.in_ok-header.ensures.reads in
    let numbers = c.in_ok-numbers.ensures in
    let end = c.in_err-read_end.ensures in
    let cells = 2 ^ header.bits in
    let good : is_sealed header c.in_ok-numbers.numbers.items c.in_ok-seal.seal ≡ true = search rules in
    rw (p.1, p.2) (record {
      known = end_faults table_as _ header _ _ begun.known _ (c.in_ok-numbers.numbers, c.in_ok-numbers.digest) numbers.known _ c.in_ok-seal.seal c.in_ok-seal.ensures.known (is_good header _ c.in_ok-seal.seal good (search rules)) _ _ _ end.known;
      takes = file_stops_at_end _ _ _ _ _ header _ begun.known end.no_memory (takes_sealed _ _ _ _ cells begun.takes numbers.takes c.in_ok-seal.ensures.takes) end.takes end.known;
      counts = search rules;
      memory = search rules;
    })

pub returns-clause-reads : goal.returns-clause-reads
returns-clause-reads g c =
    let header = c.in_ok-header.header in
    let begun = c.in_ok-header.ensures.reads in
    let numbers = c.in_ok-numbers.ensures in
    let end = c.in_ok-read_end.ensures in
    let cells = 2 ^ header.bits in
    let good : is_sealed header c.in_ok-numbers.numbers.items c.in_ok-seal.seal ≡ true = search rules in
    record {
      known = whole_ok table_as _ header _ _ begun.known _ (c.in_ok-numbers.numbers, c.in_ok-numbers.digest) numbers.known _ c.in_ok-seal.seal c.in_ok-seal.ensures.known (is_good header _ c.in_ok-seal.seal good (search rules)) _ _
          c.in-Some.snapshot c.in-Some.ensures.table end.known;
      takes = takes_within _ _ _ header (whole_snap_bytes cells) None begun.known (takes_then _ _ _ (sealed_bytes cells) 1 (takes_sealed _ _ _ _ cells begun.takes numbers.takes c.in_ok-seal.ensures.takes) end.takes) (le_refl (whole_snap_bytes cells));
      counts = search rules;
      memory = search rules;
    }

pub returns-clause-spelled : goal.returns-clause-spelled
returns-clause-spelled g c = read_from is_snap_silent IsSnapshot _ _ file_table table_as c.in-Some.snapshot file_read (returns-clause-reads g c).known

pub returns-clause-laid_out : goal.returns-clause-laid_out
returns-clause-laid_out g c = laid_out c.in_ok-header.header c.in_ok-numbers.numbers.items c.in_ok-seal.seal (table_as c.in-Some.snapshot) c.in-Some.ensures.table (search rules)
