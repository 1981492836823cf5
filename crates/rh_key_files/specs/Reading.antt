-- Reading a key file from left to right, up to the first fault. A step gives a value and the bytes after it.
use Rattle.std.specs.Prelude.{◌≡◌, ℕ, min, Bool, true, false, not, ◌&&◌, ◌==◌, nat_lt, nat_le, if◌then◌else◌, List, ◌++◌, take, Option, Some, None, Result, Ok, Err}
use Rattle.std.specs.Str.{bytes_eq}
use Rattle.rh_layout.specs.declared.limits.TheConstants.{MAX_KEY, MAX_KEYS}
use Rattle.rh_key_files.specs.declared.version.Version.{Version}
use Rattle.rh_key_files.specs.declared.version.Version.TheVariants.{First, Second}
use Rattle.rh_key_files.specs.declared.header.Header.{Header}
use Rattle.rh_key_files.specs.declared.fault.KeyFault.{KeyFault}
use Rattle.rh_key_files.specs.declared.fault.KeyFault.TheVariants as faults
use Rattle.rh_key_files.specs.declared.fault.KeyFault.TheVariants.{NotKeys, Short, TooMany, BadKey, Long}
use Rattle.rh_bytes.specs.Input as input
use Rattle.rh_bytes.specs.Input.{◌>>=◌, bytes_at, number_at, many_at, end_at, AreAll, BeginsWith}
use Rattle.rh_key_files.specs.KeyFile.{magic, least_key, IsKeyFile, IsLongKeyFile}

-- the version whose magic the four bytes are
abbrev pub named : List ℕ × List ℕ → Result (Version × List ℕ) KeyFault
named four =
    if bytes_eq four.0 (magic First) then Ok (First, four.1)
    else if bytes_eq four.0 (magic Second) then Ok (Second, four.1)
    else Err NotKeys

unfoldable pub version_at : List ℕ → Result (Version × List ℕ) KeyFault
version_at bytes = bytes_at Short 4 bytes >>= named

abbrev pub few : ℕ × List ℕ → Result (ℕ × List ℕ) KeyFault
few n = if nat_lt MAX_KEYS n.0 then Err TooMany else Ok n

unfoldable pub count_at : List ℕ → Result (ℕ × List ℕ) KeyFault
count_at bytes = number_at Short bytes >>= few

abbrev pub with_count : Version → ℕ × List ℕ → Result (Header × List ℕ) KeyFault
with_count version count = Ok (record { version = version; count = count.0 }, count.1)

abbrev pub after_version : Version × List ℕ → Result (Header × List ℕ) KeyFault
after_version version = count_at version.1 >>= with_count version.0

-- the header: the version, and the number of keys
unfoldable pub header_at : List ℕ → Result (Header × List ℕ) KeyFault
header_at bytes = version_at bytes >>= after_version

-- the number of keys that the header says
abbrev pub count_in_header : List ℕ → Result ℕ KeyFault
count_in_header bytes = header_at bytes >>= (λ header. Ok header.0.count)

abbrev pub is_key_in : Version → ℕ → Bool
is_key_in version k = nat_le (least_key version) k && nat_le k MAX_KEY

abbrev pub is_refused : Version → ℕ → Bool
is_refused version k = not (is_key_in version k)

abbrev pub in_range : Version → ℕ → ℕ × List ℕ → Result (ℕ × List ℕ) KeyFault
in_range version index k = if is_key_in version k.0 then Ok k else Err (BadKey index)

-- the key with this index
unfoldable pub key_at : Version → ℕ → List ℕ → Result (ℕ × List ℕ) KeyFault
key_at version index bytes = number_at Short bytes >>= in_range version index

-- n keys, of which the first has this index
abbrev pub keys_at : Version → ℕ → ℕ → List ℕ → Result (List ℕ × List ℕ) KeyFault
keys_at version index n bytes = many_at (key_at version) index n bytes

-- what a call with room for some keys gives, where so many are left
unfoldable pub batch_at : Version → ℕ → ℕ → ℕ → List ℕ → Result (List ℕ × List ℕ) KeyFault
batch_at version index left room bytes =
    if left == 0 then end_at Long bytes else keys_at version index (min room left) bytes

abbrev pub keys_ended : List ℕ × List ℕ → Result (List ℕ × List ℕ) KeyFault
keys_ended keys = end_at Long keys.1 >>= (λ end. Ok (keys.0, end.1))

abbrev pub after_header : Header × List ℕ → Result (List ℕ × List ℕ) KeyFault
after_header header = keys_at header.0.version 0 header.0.count header.1 >>= keys_ended

-- a whole file: the keys, and nothing after them
unfoldable pub file_keys : List ℕ → Result (List ℕ × List ℕ) KeyFault
file_keys bytes = header_at bytes >>= after_header

-- ---- a file of any number of keys

-- what comes behind the magic: the number of keys, so many keys, and nothing after them
unfoldable pub keys_behind : Version → List ℕ → Result (List ℕ × List ℕ) KeyFault
keys_behind version bytes = number_at Short bytes >>= (λ count. keys_at version 0 count.0 count.1 >>= keys_ended)

-- a whole file
unfoldable pub long_file_keys : List ℕ → Result (List ℕ × List ℕ) KeyFault
long_file_keys bytes = version_at bytes >>= (λ begun. keys_behind begun.0 begun.1)

-- its header, of which the magic was read before
abbrev pub header_behind : Version → List ℕ → Result (Header × List ℕ) KeyFault
header_behind version bytes = number_at Short bytes >>= with_count version

unfoldable pub long_header_at : List ℕ → Result (Header × List ℕ) KeyFault
long_header_at bytes = version_at bytes >>= (λ begun. header_behind begun.0 begun.1)

-- ---- what is said of a reader's bytes, as of those of any file

-- A failed read and want of memory say nothing of the bytes.
abbrev pub is_silent : KeyFault → Bool
is_silent faults.Read = true
is_silent faults.Memory = true
is_silent e = false

abbrev pub KeysFail : {X : Type 0} → KeyFault → Result X KeyFault → Type 0
KeysFail e said = input.Fails is_silent e said

abbrev pub ReadsKeys : {X Y : Type 0} → Option (List ℕ) → Option (List ℕ) → (List ℕ → Result (Y × List ℕ) KeyFault) → (X → Y) → Result X KeyFault → Type 0
ReadsKeys old new reading view r = input.Reads is_silent old new reading view r

-- the keys that were put at the front of a slice
abbrev pub front_of : List ℕ → ℕ → List ℕ
front_of xs n = take n xs

-- Where the bytes are known, those that were taken hold no fault: they only end early.
abbrev pub CutShort : {Y : Type 0} → Option (List ℕ) → Option (List ℕ) → (List ℕ → Result (Y × List ℕ) KeyFault) → Type 0
CutShort None new reading = Unit {0}
CutShort (Some bytes) None reading = ⊥
CutShort (Some bytes) (Some rest) reading = (taken : List ℕ) × (bytes ≡ taken ++ rest) × (reading taken ≡ Err Short)

-- what is read is no fault, but that the bytes may end early
abbrev pub IsGood : {Y : Type 0} → Result Y KeyFault → Type 0
IsGood (Ok y) = Unit {0}
IsGood (Err Short) = Unit {0}
IsGood (Err e) = ⊥

-- Where known bytes begin with a header, the keys that were taken behind it are good: none of them is out of range. So neither a
-- failed read nor want of memory is told in place of one.
abbrev pub TakesGoodKeys : (header_in : List ℕ → Result (Header × List ℕ) KeyFault) → (old new : Option (List ℕ)) → Type 0
TakesGoodKeys header_in None new = Unit {0}
TakesGoodKeys header_in (Some bytes) None = ⊥
TakesGoodKeys header_in (Some bytes) (Some rest) =
    (header : Header) (taken : List ℕ) → header_in bytes ≡ Ok (header, taken ++ rest) → IsGood (keys_at header.version 0 header.count taken)

-- Known bytes are no key file, and this is the first fault in them.
abbrev pub IsFirstKeyFault : Option (List ℕ) → KeyFault → Type 0
IsFirstKeyFault None fault = Unit {0}
IsFirstKeyFault (Some bytes) fault = KeysFail {X = List ℕ × List ℕ} fault (file_keys bytes)

-- known bytes begin with a header that can be read
abbrev pub BeginsWithHeader : Option (List ℕ) → Type 0
BeginsWithHeader old = BeginsWith header_at old

-- Known bytes are a key file of these keys, and none is left.
abbrev pub IsReadFrom : Option (List ℕ) → Option (List ℕ) → List ℕ → Type 0
IsReadFrom old new keys = AreAll IsKeyFile old new keys

-- ---- the same, of a file of any number of keys

abbrev pub IsFirstLongKeyFault : Option (List ℕ) → KeyFault → Type 0
IsFirstLongKeyFault None fault = Unit {0}
IsFirstLongKeyFault (Some bytes) fault = KeysFail {X = List ℕ × List ℕ} fault (long_file_keys bytes)

abbrev pub BeginsWithLongHeader : Option (List ℕ) → Type 0
BeginsWithLongHeader old = BeginsWith long_header_at old

abbrev pub IsLongReadFrom : Option (List ℕ) → Option (List ℕ) → List ℕ → Type 0
IsLongReadFrom old new keys = AreAll IsLongKeyFile old new keys
