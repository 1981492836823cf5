-- The grammar of key files: which bytes are a key file, and of which keys.
use Rattle.std.specs.Prelude.{◌≡◌, ℕ, ◌≤◌, List, ◌++◌, length, codes, All}
use Rattle.std.specs.List.{flat_map}
use Rattle.rh_layout.specs.Key.{IsKey}
use Rattle.rh_bytes.specs.Input.{eight_bytes}
use Rattle.rh_key_files.specs.declared.version.Version.{Version}
use Rattle.rh_key_files.specs.declared.version.Version.TheVariants.{First, Second}
use Rattle.rh_layout.specs.declared.limits.TheConstants.{MAX_KEYS}

-- the first four bytes
abbrev pub magic : Version → List ℕ
magic First = codes "RHK1"
magic Second = codes "RHK2"

abbrev pub least_key : Version → ℕ
least_key First = 1
least_key Second = 0

abbrev pub IsKeyIn : Version → ℕ → Type 0
IsKeyIn version k = (least_key version ≤ k) × IsKey k

-- the keys one after the other
abbrev pub spelled_keys : List ℕ → List ℕ
spelled_keys keys = flat_map eight_bytes keys

-- what stands before the keys, where there are so many
abbrev pub header : Version → ℕ → List ℕ
header version count = magic version ++ eight_bytes count

-- the one spelling of these keys in this version
abbrev pub spelling : Version → List ℕ → List ℕ
spelling version keys = magic version ++ (eight_bytes (length keys) ++ spelled_keys keys)

-- the bytes are a key file of this version, of these keys
pub record KeyFile (version : Version) (bytes keys : List ℕ) : Type 0 where
  pub spelled : bytes ≡ spelling version keys
  pub few : length keys ≤ MAX_KEYS
  pub in_range : All (IsKeyIn version) keys

-- the same, of any number of keys
pub record LongKeyFile (version : Version) (bytes keys : List ℕ) : Type 0 where
  pub spelled : bytes ≡ spelling version keys
  pub in_range : All (IsKeyIn version) keys

-- the bytes are a key file of these keys, in one of the versions
abbrev pub IsKeyFile : (bytes keys : List ℕ) → Type 0
IsKeyFile bytes keys = (version : Version) × KeyFile version bytes keys

abbrev pub IsLongKeyFile : (bytes keys : List ℕ) → Type 0
IsLongKeyFile bytes keys = (version : Version) × LongKeyFile version bytes keys
