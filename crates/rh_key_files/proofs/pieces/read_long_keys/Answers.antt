use Rattle.std.proofs.Common.{flat_map, rules}
use Rattle.std.proofs.lemmas.Result.{err_from_is_err_and}
use Rattle.rh_key_files.proofs.LongFile.{header_begins, long_spelled, magic_fails, magic_stops, read_behind, taken_behind}
use Rattle.rh_key_files.specs.Limits.{header_bytes}
use Rattle.rh_key_files.specs.Reading.{long_header_at}
use Rattle.rh_key_files.proofs.Tested.{good_behind, good_in_header, long_header_long, within_magic}
use Rattle.rh_key_files.proofs.pieces.read_long_keys.Goals as goal

pub returns-in_err-version-clause-list : goal.returns-in_err-version-clause-list
returns-in_err-version-clause-list g c =
    let p = err_from_is_err_and c.from_residual.result c.from_residual.ensures.1 in
    let version = c.in_err-version.ensures in
    rw (p.1, p.2) (record {
      known = magic_fails (λ pieces. flat_map (λ piece. piece.items) pieces.items) _ _ _ version.known;
      takes = magic_stops _ _ _ version.takes;
      counts = search rules;
      memory = search rules;
      tested = λ _. good_in_header long_header_at header_bytes _ _ long_header_long (within_magic _ _ version.takes);
      tested_too = search rules;
    })

pub returns-clause-list : goal.returns-clause-list
returns-clause-list g c =
    let version = c.in_ok-version.version in
    let magic = c.in_ok-version.ensures in
    let behind = c.read_pieces.ensures.list in
    record {
      known = read_behind (λ pieces. flat_map (λ piece. piece.items) pieces.items) _ _ _ version c.read_pieces.result magic.known behind.known;
      takes = taken_behind (λ pieces. flat_map (λ piece. piece.items) pieces.items) _ _ _ version c.read_pieces.result magic.known magic.takes behind.known behind.takes;
      counts = search rules;
      memory = λ memory. header_begins _ _ version magic.known (behind.memory memory);
      tested = λ failed. good_behind _ _ _ version magic.known (behind.tested failed);
      tested_too = λ memory. good_behind _ _ _ version magic.known (behind.tested_too memory);
    }

pub returns-clause-spelled : goal.returns-clause-spelled
returns-clause-spelled g c = long_spelled (λ pieces. flat_map (λ piece. piece.items) pieces.items) _ _ c.read_pieces.result (returns-clause-list g c).known
