-- A key file of any number of keys: its magic, and then what stands behind it.
use Rattle.std.proofs.Common.{◌≡◌, ℕ, ◌+◌, ◌≤◌, List, Option, Some, None, Result, Ok, Err, refl, sym, ap, subst, ◌∙◌, arith}
use Rattle.std.specs.Prelude.{IfErr, IfOk}
use Rattle.rh_key_files.specs.declared.version.Version.{Version}
use Rattle.rh_key_files.specs.declared.fault.KeyFault.{KeyFault}
use Rattle.rh_key_files.specs.declared.fault.KeyFault.TheVariants.{BadKey, Long, NotKeys, Short}
use Rattle.rh_bytes.specs.Input.{◌>>=◌, BeginsWith, end_at, fault_of, number_at}
use Rattle.rh_bytes.specs.Taking.{TakesAtMost}
use Rattle.rh_bytes.proofs.Reading.{Reads-fails, Reads-then, read_from}
use Rattle.rh_bytes.proofs.Taking.{takes_both, takes_fewer, takes_of_unknown}
use Rattle.rh_bytes.proofs.Told.{end_told, number_told, then_told}
use Rattle.rh_key_files.specs.KeyFile.{IsLongKeyFile}
use Rattle.rh_key_files.specs.Limits.{TakesBehindMagic, TakesOfLongFile, bytes_behind, count_in, first_number, long_count_said, long_file_bytes, magic_bytes, number_said}
use Rattle.rh_key_files.specs.Reading.{BeginsWithLongHeader, IsLongReadFrom, ReadsKeys, header_behind, is_silent, keys_at, keys_behind, keys_ended, long_file_keys, long_header_at, version_at, with_count}
use Rattle.rh_key_files.proofs.Bounds.{ComesFrom, IsLater, keys_come}
use Rattle.rh_key_files.proofs.Grammar.{long_read}

abbrev MagicRead : (a b : Option (List ℕ)) → Result Version KeyFault → Type 0
MagicRead a b r = ReadsKeys a b version_at (λ (v : Version). v) r

-- ---- what is read

module _ {X : Type 0} (view : X → List ℕ) where
  pub magic_fails : (a b : Option (List ℕ)) (e : KeyFault) → MagicRead a b (Err e) → ReadsKeys a b long_file_keys view (Err e)
  unfolding long_file_keys
  magic_fails a b e h = Reads-fails is_silent a b b version_at (λ begun. keys_behind begun.0 begun.1) (λ (v : Version). v) view e h

  pub read_behind : (a b c : Option (List ℕ)) (version : Version) (r : Result X KeyFault) → MagicRead a b (Ok version) → ReadsKeys b c (keys_behind version) view r → ReadsKeys a c long_file_keys view r
  unfolding long_file_keys
  read_behind a b c version r magic h = Reads-then is_silent a b c version_at (λ begun. keys_behind begun.0 begun.1) (λ (v : Version). v) view version r magic h

  pub long_spelled : (a b : Option (List ℕ)) (r : Result X KeyFault) → ReadsKeys a b long_file_keys view r → IfOk r (λ x. IsLongReadFrom a b (view x))
  long_spelled a b (Ok x) h = read_from is_silent IsLongKeyFile a b long_file_keys view x long_read h
  long_spelled a b (Err e) h = tt

-- the magic and what can be read behind it make a header
pub header_begins : (a b : Option (List ℕ)) (version : Version) → MagicRead a b (Ok version) → BeginsWith (header_behind version) b → BeginsWithLongHeader a
unfolding long_header_at
header_begins None b version magic begins = tt
header_begins (Some x) None version magic begins = absurd magic
header_begins (Some x) (Some y) version magic begins = (begins.0, rw magic begins.1)

-- ---- how many bytes were taken

magic_within : (count : ℕ) (e : KeyFault) → magic_bytes ≤ long_file_bytes count (Some e)
magic_within count (BadKey index) = omega arith
magic_within count e = omega arith

pub magic_stops : (a b : Option (List ℕ)) (e : KeyFault) → TakesAtMost a b magic_bytes → TakesOfLongFile a b (Some e)
magic_stops a b e t = takes_fewer a b magic_bytes (long_file_bytes (long_count_said a) (Some e)) t (magic_within (long_count_said a) e)

-- the number behind the magic is that of the header
as_said : (version : Version) (r : Result (ℕ × List ℕ) KeyFault) → count_in (r >>= with_count version) ≡ first_number r
as_said version (Ok n) = refl
as_said version (Err e) = refl

same_number : (x y : List ℕ) (version : Version) → version_at x ≡ Ok (version, y) → long_count_said (Some x) ≡ number_said (Some y)
unfolding long_header_at
same_number x y version magic = ap (λ r. count_in (r >>= (λ begun. number_at Short begun.1 >>= with_count begun.0))) magic ∙ as_said version (number_at Short y)

-- behind the magic it is not what is wrong
keys_later : (index : ℕ) (r : Result (List ℕ × List ℕ) KeyFault) → ComesFrom index r → IfErr r IsLater
keys_later index (Ok x) h = tt
keys_later index (Err Short) h = tt
keys_later index (Err (BadKey bad)) h = tt
keys_later index (Err e) h = absurd h

all_later : (version : Version) (bytes : List ℕ) → IfErr (keys_behind version bytes) IsLater
unfolding keys_behind
all_later version bytes =
    then_told IsLater (number_at Short bytes) (λ count. keys_at version 0 count.0 count.1 >>= keys_ended) (number_told IsLater Short tt bytes)
    (λ count. then_told IsLater (keys_at version 0 count.0 count.1) keys_ended (keys_later 0 (keys_at version 0 count.0 count.1) (keys_come version 0 count.0 count.1))
    (λ keys. then_told IsLater (end_at Long keys.1) (λ end. Ok (keys.0, end.1)) (end_told IsLater Long tt keys.1) (λ end. tt)))

module _ {X : Type 0} (view : X → List ℕ) where
  whole_fits : (count : ℕ) (version : Version) (y : List ℕ) (c : Option (List ℕ)) (r : Result X KeyFault) → ReadsKeys (Some y) c (keys_behind version) view r
      → magic_bytes + bytes_behind count (fault_of r) ≤ long_file_bytes count (fault_of r)
  whole_fits count version y c (Ok x) h = omega arith
  whole_fits count version y c (Err NotKeys) h = absurd (subst (λ r. IfErr r IsLater) h (all_later version y))
  whole_fits count version y c (Err (BadKey index)) h = omega arith
  whole_fits count version y c (Err e) h = omega arith

  pub taken_behind : (a b c : Option (List ℕ)) (version : Version) (r : Result X KeyFault) → MagicRead a b (Ok version) → TakesAtMost a b magic_bytes → ReadsKeys b c (keys_behind version) view r → TakesBehindMagic b c (fault_of r)
      → TakesOfLongFile a c (fault_of r)
  taken_behind None b c version r magic s h t = takes_of_unknown c (long_file_bytes 0 (fault_of r))
  taken_behind (Some x) None c version r magic s h t = absurd magic
  taken_behind (Some x) (Some y) c version r magic s h t =
      let n : ℕ = number_said (Some y) in
      subst (λ m. TakesAtMost (Some x) c (long_file_bytes m (fault_of r))) (sym (same_number x y version magic))
      (takes_both (Some x) (Some y) c magic_bytes (bytes_behind n (fault_of r)) (long_file_bytes n (fault_of r)) s t (whole_fits n version y c r h))
