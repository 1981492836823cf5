-- Names of lists that are split.
use Rattle.std.specs.Prelude.{ℕ, Bool, not, ◌&&◌, ◌==◌, nat_le, nat_lt, List, length}
use Rattle.std.specs.List.{list_all}
use Rattle.rh_splitting.specs.declared.name.TheConstants.{MAX_NAME_BYTES}

-- a byte that a word of a script has, and no slash
abbrev pub is_allowed : ℕ → Bool
is_allowed b = nat_le 33 b && (nat_le b 126 && not (b == 47))

abbrev pub is_name : List ℕ → Bool
is_name name = nat_lt 0 (length name) && (nat_le (length name) MAX_NAME_BYTES && list_all is_allowed name)
