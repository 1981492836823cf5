use Rattle.std.specs.Vec.{with_items}
use Rattle.std.proofs.lemmas.List.{with_items_is}
use Rattle.std.proofs.lemmas.Result.{err_from_is_err_and}
use Rattle.std.proofs.Common.{◌≡◌, length, Some, rules}
use Rattle.rh_key_files.specs.declared.header.Header.{Header}
use Rattle.rh_key_files.specs.KeyFile.{IsKeyFile}
use Rattle.rh_key_files.specs.Limits.{header_bytes}
use Rattle.rh_key_files.specs.Reading.{file_keys, header_at, is_silent}
use Rattle.rh_key_files.proofs.Whole.{all_read, as_many, behind_header, end_stops, header_faults, keys_stop}
use Rattle.rh_key_files.proofs.Grammar.{file_read}
use Rattle.rh_bytes.proofs.Reading.{Reads-begins, read_from}
use Rattle.rh_key_files.proofs.Bounds.{HeaderRead, file_stops_in_keys, file_stops_at_end, file_taken}
use Rattle.rh_key_files.proofs.Tested.{as_many_cut, good_cut, good_in_header, good_whole, header_long, within_header}
use Rattle.rh_key_files.proofs.keys.read_keys.Goals as goal

pub returns-in_err-header-clause-list : goal.returns-in_err-header-clause-list
returns-in_err-header-clause-list g c =
    let p = err_from_is_err_and c.from_residual.result c.from_residual.ensures.1 in
    let begun = c.in_err-header.ensures.reads in
    rw (p.1, p.2) (record {
      known = header_faults (λ v. v.items) _ _ _ _ begun.known;
      takes = search rules;
      counts = search rules;
      memory = search rules;
      tested = λ _. good_in_header header_at header_bytes _ _ header_long (within_header _ _ (Some c.in_err-header.field-0.0) begun.takes);
      tested_too = search rules;
    })

pub returns-in_default-clause-list : goal.returns-in_default-clause-list
returns-in_default-clause-list g c =
    let begun = c.in_ok-header.ensures.reads in
    record {
      known = search rules;
      takes = search rules;
      counts = search rules;
      memory = λ _. Reads-begins is_silent _ _ header_at (λ (h : Header). h) _ begun.known;
      tested = search rules;
      tested_too = λ _. good_in_header header_at header_bytes _ _ header_long begun.takes;
    }

pub returns-in_err-read_keys-clause-list : goal.returns-in_err-read_keys-clause-list
returns-in_err-read_keys-clause-list g c =
    let p = err_from_is_err_and c.from_residual-in_err-read_keys.result c.from_residual-in_err-read_keys.ensures.1 in
    let header = c.in_ok-header.header in
    let begun = c.in_ok-header.ensures.reads in
    let keys = c.in_err-read_keys.ensures.run in
    let many : length c.read_keys.new.batch ≡ header.count = search rules in
    let read : HeaderRead _ _ header.version (length c.read_keys.new.batch) = record { said = header.count; read = begun.known; same = many; taken = begun.takes } in
    rw (p.1, p.2) (record {
      known = behind_header (λ v. v.items) header.version header.count _ _ _ _ begun.known (keys_stop (λ v. v.items) header.version header.count _ _ _ _ _ (as_many _ _ _ _ _ _ _ many keys.known));
      takes = file_stops_in_keys _ _ _ _ _ _ _ read keys.no_memory keys.takes keys.known;
      counts = search rules;
      memory = search rules;
      tested = λ failed. good_cut header_at _ _ _ header begun.known (as_many_cut header.version _ header.count _ _ many (keys.tested (search failed)));
      tested_too = search rules;
    })

pub returns-in_err-read_end-clause-list : goal.returns-in_err-read_end-clause-list
returns-in_err-read_end-clause-list g c =
    let p = err_from_is_err_and c.from_residual-in_err-read_end.result c.from_residual-in_err-read_end.ensures.1 in
    let header = c.in_ok-header.header in
    let begun = c.in_ok-header.ensures.reads in
    let end = c.in_err-read_end.ensures in
    let many : length c.read_keys.new.batch ≡ header.count = search rules in
    let read : HeaderRead _ _ header.version (length c.read_keys.new.batch) = record { said = header.count; read = begun.known; same = many; taken = begun.takes } in
    let keys = as_many _ _ _ _ _ _ _ many c.in_ok-read_keys.ensures.run.known in
    rw (p.1, p.2) (record {
      known = behind_header (λ v. v.items) header.version header.count _ _ _ _ begun.known (end_stops (λ v. v.items) header.version header.count _ _ _ c.read_keys.new.batch keys _ _ _ end.known);
      takes = file_stops_at_end _ _ _ _ _ _ _ _ read end.no_memory c.in_ok-read_keys.ensures.run.takes end.takes end.known;
      counts = search rules;
      memory = search rules;
      tested = λ _. good_whole header_at _ _ _ _ header 1 c.read_keys.new.batch begun.known keys end.takes;
      tested_too = search rules;
    })

pub returns-clause-list : goal.returns-clause-list
returns-clause-list g c =
    let header = c.in_ok-header.header in
    let begun = c.in_ok-header.ensures.reads in
    let end = c.in_ok-read_end.ensures in
    let many : length c.read_keys.new.batch ≡ header.count = search rules in
    let read : HeaderRead _ _ header.version (length c.read_keys.new.batch) = record { said = header.count; read = begun.known; same = many; taken = begun.takes } in
    let items = with_items_is c.in-Ok.keys c.read_keys.new.batch (search rules) in
    record {
      known = behind_header (λ v. v.items) header.version header.count _ _ _ _ begun.known
          (all_read (λ v. v.items) header.version header.count _ _ _ c.read_keys.new.batch (as_many _ _ _ _ _ _ _ many c.in_ok-read_keys.ensures.run.known) (with_items c.in-Ok.keys c.read_keys.new.batch) items end.known);
      takes = file_taken _ _ _ _ _ _ read c.in_ok-read_keys.ensures.run.takes end.takes;
      counts = search rules;
      memory = search rules;
      tested = search rules;
      tested_too = search rules;
    }

pub returns-clause-spelled : goal.returns-clause-spelled
returns-clause-spelled g c = read_from is_silent IsKeyFile _ _ file_keys (λ v. v.items) _ file_read (returns-clause-list g c).known
