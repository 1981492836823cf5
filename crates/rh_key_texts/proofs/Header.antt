-- A snapshot that was read begins with a header.
use Rattle.std.proofs.Common.{ℕ, List, Option, Ok}
use Rattle.rh_bytes.proofs.Parsed.{begins_with}
use Rattle.rh_snapshot.specs.Reading.{BeginsWithSnapHeader, ReadsSnap, after_snap_header, file_table, snap_header_at, is_snap_silent}
use Rattle.rh_snapshot.specs.Snapshot.{Table}

pub begins : {X : Type 0} (a b : Option (List ℕ)) (view : X → Table) (x : X) → ReadsSnap a b file_table view (Ok x) → BeginsWithSnapHeader a
unfolding file_table
begins a b view x h = begins_with is_snap_silent a b snap_header_at after_snap_header view x h
