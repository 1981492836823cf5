use Rattle.std.proofs.Common.{rules}
use Rattle.rh_snapshot.specs.declared.version.Version.TheVariants.{Second}
use Rattle.rh_snapshot.specs.Snapshot.{snap_header_of, spelled_header, spelled_numbers}
use Rattle.rh_snapshot.proofs.Sealing.{seal_appended}
use Rattle.rh_snapshot.proofs.writing.put_snapshot.Goals as goal

pub returns-clause-appended : goal.returns-clause-appended
returns-clause-appended c =
    seal_appended c.args.out.now.items c.put_header.new.out.items c.put_cells.new.out.items _ (spelled_header (snap_header_of Second c.args.bits c.args.cells.now)) (spelled_numbers c.args.cells.now) c.digest-seal.result c.deref.result.now c.len-before.result _
    (search rules) c.in_ok-put_header.ensures.appended c.in_ok-put_cells.ensures.appended c.deref.ensures.value c.digest-seal.ensures c.extend_from_slice.ensures.items
