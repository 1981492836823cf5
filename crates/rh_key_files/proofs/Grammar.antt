-- What is spelled as a key file is read to its keys, and what is read is spelled so.
use Rattle.std.proofs.Common.{◌≡◌, ℕ, ◌<◌, ◌≤◌, ◌^◌, true, List, [], ◌∷◌, ◌++◌, length, Ok, Err, inl, inr, refl, sym, ap, ◌∙◌, subst, arith, append-nil, length-append, ltb, leb}
use Rattle.std.proofs.lemmas.Bool.{cases_Bool, and_parts, and_from, ltb-false, leb-true, le-leb, le-ltb}
use Rattle.std.specs.Prelude.{All}
use Rattle.rh_layout.specs.declared.limits.TheConstants.{MAX_KEY, MAX_KEYS}
use Rattle.rh_key_files.specs.declared.version.Version.{Version}
use Rattle.rh_key_files.specs.declared.version.Version.TheVariants.{First, Second}
use Rattle.rh_key_files.specs.declared.fault.KeyFault.TheVariants.{NotKeys, Short, TooMany, BadKey, Long}
use Rattle.rh_key_files.specs.declared.header.Header.{Header}
use Rattle.rh_bytes.specs.Input.{eight_bytes}
use Rattle.rh_key_files.specs.KeyFile.{magic, least_key, IsKeyIn, spelled_keys, KeyFile, IsKeyFile, LongKeyFile, IsLongKeyFile}
use Rattle.rh_bytes.specs.Input.{◌>>=◌, number_at, end_at}
use Rattle.rh_key_files.specs.Reading.{version_at, few, count_at, with_count, after_version, header_at, is_key_in, in_range, key_at, keys_at, keys_ended, after_header, file_keys, keys_behind, long_file_keys}
use Rattle.rh_bytes.proofs.Many.{Spells, many_given, many_read}
use Rattle.rh_bytes.proofs.Parsed.{then_ok, if_ok, magic_read, same, same_value, same_rest, number_read, end_read, bytes_given, number_given}

-- ---- what is read is spelled so

pub version_read : (bytes : List ℕ) (p : Version × List ℕ) → version_at bytes ≡ Ok p → bytes ≡ magic p.0 ++ p.1
unfolding version_at
version_read bytes p h = magic_read magic First Second NotKeys Short bytes p h

count_read : (bytes : List ℕ) (p : ℕ × List ℕ) → count_at bytes ≡ Ok p → (bytes ≡ eight_bytes p.0 ++ p.1) × (p.0 ≤ MAX_KEYS)
unfolding count_at
count_read bytes p h =
    let s = then_ok (number_at Short bytes) few p h in
    elim (cases_Bool (ltb MAX_KEYS s.0.0)) [
      | inl more ↦ let got : Err TooMany ≡ Ok p = rw more at s.2 in absurd cc
      | inr other ↦
          let is = same s.0 p (rw other at s.2) in
          (number_read Short bytes s.0 s.1 ∙ ap (λ (q : ℕ × List ℕ). eight_bytes q.0 ++ q.1) is, subst (λ (q : ℕ × List ℕ). q.0 ≤ MAX_KEYS) is (ltb-false MAX_KEYS s.0.0 other))
    ]

pub header_read : (bytes : List ℕ) (p : Header × List ℕ) → header_at bytes ≡ Ok p → (bytes ≡ magic p.0.version ++ (eight_bytes p.0.count ++ p.1)) × (p.0.count ≤ MAX_KEYS)
unfolding header_at
header_read bytes p h =
    let s = then_ok (version_at bytes) after_version p h in
    let t = then_ok (count_at s.0.1) (with_count s.0.0) p s.2 in
    let c = count_read s.0.1 t.0 t.1 in
    let header : Header = record { version = s.0.0; count = t.0.0 } in
    let is : header ≡ p.0 = same_value (header, t.0.1) p t.2 in
    let after : t.0.1 ≡ p.1 = same_rest (header, t.0.1) p t.2 in
    (version_read bytes s.0 s.1 ∙ ap (λ l. magic s.0.0 ++ l) c.0 ∙ ap (λ (w : Header). magic w.version ++ (eight_bytes w.count ++ t.0.1)) is ∙ ap (λ l. magic p.0.version ++ (eight_bytes p.0.count ++ l)) after, subst (λ (w : Header). w.count ≤ MAX_KEYS) is c.1)

key_read : (version : Version) (index : ℕ) (bytes : List ℕ) (p : ℕ × List ℕ) → key_at version index bytes ≡ Ok p → (bytes ≡ eight_bytes p.0 ++ p.1) × IsKeyIn version p.0
unfolding key_at
key_read version index bytes p h =
    let s = then_ok (number_at Short bytes) (in_range version index) p h in
    let t = if_ok (is_key_in version s.0.0) s.0 (BadKey index) p s.2 in
    let parts = and_parts (leb (least_key version) s.0.0) (leb s.0.0 MAX_KEY) t.0 in
    (number_read Short bytes s.0 s.1 ∙ ap (λ (q : ℕ × List ℕ). eight_bytes q.0 ++ q.1) t.1, subst (λ (q : ℕ × List ℕ). IsKeyIn version q.0) t.1 (leb-true _ _ parts.0, leb-true _ _ parts.1))

pub keys_read : (version : Version) (index n : ℕ) (bytes : List ℕ) (p : List ℕ × List ℕ) → keys_at version index n bytes ≡ Ok p → Spells (IsKeyIn version) n bytes p
keys_read version index n bytes p h = many_read (key_at version) (IsKeyIn version) (key_read version) index n bytes p h

pub file_read : (bytes : List ℕ) (p : List ℕ × List ℕ) → file_keys bytes ≡ Ok p → IsKeyFile bytes p.0 × (p.1 ≡ [])
unfolding file_keys
file_read bytes p h =
    let s = then_ok (header_at bytes) after_header p h in
    let t = then_ok (keys_at s.0.0.version 0 s.0.0.count s.0.1) keys_ended p s.2 in
    let u = then_ok (end_at Long t.0.1) (λ end. Ok (t.0.0, end.1)) p t.2 in
    let header = header_read bytes s.0 s.1 in
    let keys = keys_read s.0.0.version 0 s.0.0.count s.0.1 t.0 t.1 in
    let end = end_read Long t.0.1 u.0 u.1 in
    let is : t.0.0 ≡ p.0 = same_value (t.0.0, u.0.1) p u.2 in
    let none : p.1 ≡ [] = sym (same_rest (t.0.0, u.0.1) p u.2) ∙ end.1 in
    let body : s.0.1 ≡ spelled_keys t.0.0 = keys.whole ∙ ap (λ l. spelled_keys t.0.0 ++ l) end.0 ∙ append-nil (spelled_keys t.0.0) in
    let file : KeyFile s.0.0.version bytes t.0.0 = record {
      spelled = header.0 ∙ ap (λ l. magic s.0.0.version ++ (eight_bytes s.0.0.count ++ l)) body ∙ ap (λ n. magic s.0.0.version ++ (eight_bytes n ++ spelled_keys t.0.0)) (sym keys.many);
      few = rw keys.many header.1;
      in_range = keys.fit;
    } in
    (subst (IsKeyFile bytes) is (s.0.0.version, file), none)

pub long_read : (bytes : List ℕ) (p : List ℕ × List ℕ) → long_file_keys bytes ≡ Ok p → IsLongKeyFile bytes p.0 × (p.1 ≡ [])
unfolding long_file_keys keys_behind
long_read bytes p h =
    let s = then_ok (version_at bytes) (λ begun. keys_behind begun.0 begun.1) p h in
    let n = then_ok (number_at Short s.0.1) (λ count. keys_at s.0.0 0 count.0 count.1 >>= keys_ended) p s.2 in
    let t = then_ok (keys_at s.0.0 0 n.0.0 n.0.1) keys_ended p n.2 in
    let u = then_ok (end_at Long t.0.1) (λ end. Ok (t.0.0, end.1)) p t.2 in
    let keys = keys_read s.0.0 0 n.0.0 n.0.1 t.0 t.1 in
    let end = end_read Long t.0.1 u.0 u.1 in
    let is : t.0.0 ≡ p.0 = same_value (t.0.0, u.0.1) p u.2 in
    let none : p.1 ≡ [] = sym (same_rest (t.0.0, u.0.1) p u.2) ∙ end.1 in
    let body : n.0.1 ≡ spelled_keys t.0.0 = keys.whole ∙ ap (λ l. spelled_keys t.0.0 ++ l) end.0 ∙ append-nil (spelled_keys t.0.0) in
    let file : LongKeyFile s.0.0 bytes t.0.0 = record {
      spelled = version_read bytes s.0 s.1 ∙ ap (λ l. magic s.0.0 ++ l) (number_read Short s.0.1 n.0 n.1 ∙ ap (λ l. eight_bytes n.0.0 ++ l) body ∙ ap (λ m. eight_bytes m ++ spelled_keys t.0.0) (sym keys.many));
      in_range = keys.fit;
    } in
    (subst (IsLongKeyFile bytes) is (s.0.0, file), none)

-- ---- what is spelled is read

pub version_given : (version : Version) (rest : List ℕ) → version_at (magic version ++ rest) ≡ Ok (version, rest)
unfolding version_at
version_given First rest = rw (bytes_given Short (magic First) rest 4 refl refl) refl
version_given Second rest = rw (bytes_given Short (magic Second) rest 4 refl refl) refl

count_given : (n : ℕ) (rest : List ℕ) → n ≤ MAX_KEYS → count_at (eight_bytes n ++ rest) ≡ Ok (n, rest)
unfolding count_at
count_given n rest small = ap (λ r. r >>= few) (number_given Short n rest (omega arith)) ∙ rw (le-ltb MAX_KEYS n small) refl

header_given : (version : Version) (n : ℕ) (rest : List ℕ) → n ≤ MAX_KEYS → header_at (magic version ++ (eight_bytes n ++ rest)) ≡ Ok (record { version = version; count = n }, rest)
unfolding header_at
header_given version n rest small =
    ap (λ r. r >>= after_version) (version_given version (eight_bytes n ++ rest)) ∙ ap (λ r. r >>= with_count version) (count_given n rest small)

pub key_spelled : (version : Version) (index k : ℕ) (rest : List ℕ) → k < 2 ^ 64 → key_at version index (eight_bytes k ++ rest) ≡ in_range version index (k, rest)
unfolding key_at
key_spelled version index k rest fits = ap (λ r. r >>= in_range version index) (number_given Short k rest fits)

key_given : (version : Version) (index k : ℕ) (rest : List ℕ) → IsKeyIn version k → key_at version index (eight_bytes k ++ rest) ≡ Ok (k, rest)
key_given version index k rest fits =
    let test : is_key_in version k ≡ true = and_from (leb (least_key version) k) (leb k MAX_KEY) (le-leb _ _ fits.0) (le-leb _ _ fits.1) in
    key_spelled version index k rest (omega (arith, fits.1)) ∙ rw test refl

pub keys_given : (version : Version) (index : ℕ) (keys rest : List ℕ) → All (IsKeyIn version) keys → keys_at version index (length keys) (spelled_keys keys ++ rest) ≡ Ok (keys, rest)
keys_given version index keys rest fit = many_given (key_at version) (IsKeyIn version) (key_given version) index keys rest fit

no_more : (keys : List ℕ) → keys_ended (keys, []) ≡ Ok (keys, [])
unfolding end_at
no_more keys = refl

pub file_given : (version : Version) (bytes keys : List ℕ) → KeyFile version bytes keys → file_keys bytes ≡ Ok (keys, [])
unfolding file_keys
file_given version bytes keys f =
    let body : spelled_keys keys ++ [] ≡ spelled_keys keys = append-nil (spelled_keys keys) in
    ap file_keys f.spelled ∙ ap (λ r. r >>= after_header) (header_given version (length keys) (spelled_keys keys) f.few) ∙ ap (λ l. keys_at version 0 (length keys) l >>= keys_ended) (sym body) ∙ ap (λ r. r >>= keys_ended) (keys_given version 0 keys [] f.in_range) ∙ no_more keys

pub long_given : (version : Version) (bytes keys : List ℕ) → length keys < 2 ^ 64 → LongKeyFile version bytes keys → long_file_keys bytes ≡ Ok (keys, [])
unfolding long_file_keys keys_behind
long_given version bytes keys fits f =
    let body : spelled_keys keys ++ [] ≡ spelled_keys keys = append-nil (spelled_keys keys) in
    ap long_file_keys f.spelled ∙ ap (λ r. r >>= (λ begun. keys_behind begun.0 begun.1)) (version_given version (eight_bytes (length keys) ++ spelled_keys keys))
    ∙ ap (λ r. r >>= (λ count. keys_at version 0 count.0 count.1 >>= keys_ended)) (number_given Short (length keys) (spelled_keys keys) fits)
    ∙ ap (λ l. keys_at version 0 (length keys) l >>= keys_ended) (sym body) ∙ ap (λ r. r >>= keys_ended) (keys_given version 0 keys [] f.in_range) ∙ no_more keys

-- ---- how many keys a file can have

no_fewer_bytes : (keys : List ℕ) → length keys ≤ length (spelled_keys keys)
no_fewer_bytes [] = omega arith
no_fewer_bytes (k ∷ keys) =
    let eight : length (eight_bytes k) ≡ 8 = refl in
    omega (arith, eight, no_fewer_bytes keys, length-append (eight_bytes k) (spelled_keys keys))

pub no_more_keys : (version : Version) (bytes keys : List ℕ) → LongKeyFile version bytes keys → length keys ≤ length bytes
no_more_keys version bytes keys f =
    let rest : List ℕ = eight_bytes (length keys) ++ spelled_keys keys in
    rw f.spelled (omega (arith, no_fewer_bytes keys, length-append (magic version) rest, length-append (eight_bytes (length keys)) (spelled_keys keys)))
