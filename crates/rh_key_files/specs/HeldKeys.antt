-- What is known of keys in memory.
use Rattle.std.specs.Prelude.{ℕ, List}
use Rattle.rh_key_files.specs.declared.held_keys.HeldKeys.{HeldKeys}

-- the keys that were not given yet
abbrev pub rest_of : HeldKeys → List ℕ
rest_of held = held.rest.now
