use Rattle.std.proofs.Common.{◌≡◌, ◌+◌, drop}
use Rattle.std.specs.List.{position_from}
use Rattle.rh_key_files.specs.Reading.{is_refused}
use Rattle.rh_key_files.proofs.batch.first_refused.Given as goal

abbrev pub invariant-loop-key : goal.invariant-loop-key
invariant-loop-key l = record {
  place : l.at ≡ l.index + l.key-index;
  rest_decides : position_from (is_refused l.version) l.index l.keys ≡ position_from (is_refused l.version) l.at (drop l.key-index l.keys);
}
