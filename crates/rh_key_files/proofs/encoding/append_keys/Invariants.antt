use Rattle.std.proofs.Common.{◌≡◌, ◌++◌, take}
use Rattle.rh_key_files.specs.KeyFile.{spelled_keys}
use Rattle.rh_key_files.proofs.encoding.append_keys.Given as goal

abbrev pub invariant-loop-key : goal.invariant-loop-key
invariant-loop-key l = l.bytes.items ≡ l.fn.bytes.items ++ spelled_keys (take l.key-index l.keys)
