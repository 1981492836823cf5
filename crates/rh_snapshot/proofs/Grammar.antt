-- What is spelled as a snapshot is read to its table, and what is read is spelled so.
use Rattle.std.proofs.Common.{◌≡◌, ℕ, ◌<◌, ◌≤◌, ◌^◌, true, cond, List, [], ◌∷◌, ◌++◌, length, get_or, Ok, Err, refl, sym, ap, ◌∙◌, subst, arith, append_assoc, append-nil, leb}
use Rattle.std.proofs.lemmas.Bool.{and_parts, and_from, leb-true, le-leb, eq-eqb, lt-ltb}
use Rattle.std.proofs.lemmas.List.{get_or_default, length-map}
use Rattle.std.proofs.lemmas.Slice.Eq.{bytes_eq-Decides}
use Rattle.std.specs.Prelude.{All}
use Rattle.std.proofs.Math.Nat.{pow-le-pow_right}
use Rattle.std.specs.FinSet as set
use Rattle.sha2.specs.Sha256.{sha256}
use Rattle.sha2.proofs.Facts256.{length-sha256}
use Rattle.rh_layout.specs.declared.limits.TheConstants.{MIN_BITS, MAX_BITS}
use Rattle.rh_layout.specs.Layout.{IsLayout, keys_of}
use Rattle.rh_layout.proofs.CountLemmas.{count_of_layout}
use Rattle.rh_layout.proofs.TestLemmas.{layout_decided}
use Rattle.rh_bytes.specs.Input.{eight_bytes}
use Rattle.rh_bytes.specs.Input.{is_byte, ◌>>=◌, bytes_at, number_at, end_at}
use Rattle.rh_bytes.proofs.Many.{many_given, many_read}
use Rattle.rh_bytes.proofs.Parsed.{then_ok, if_ok, if_then, magic_read, same_value, same_rest, ok, bytes_read, number_read, end_read, bytes_given, number_given}
use Rattle.rh_snapshot.specs.declared.version.Version.{Version}
use Rattle.rh_snapshot.specs.declared.version.Version.TheVariants.{First, Second}
use Rattle.rh_snapshot.specs.declared.header.Header.{Header}
use Rattle.rh_snapshot.specs.declared.fault.SnapFault.TheVariants.{NotSnapshot, Short, BadBits, Damaged, NotALayout, Long}
use Rattle.rh_snapshot.specs.Snapshot.{snap_magic, most_bits, cells_as, snap_header_of, spelled_header, spelled_numbers, text_of, snap_spelling, SnapshotFile, Table, table_with, table_of, SnapshotOf, IsSnapshot}
use Rattle.rh_snapshot.specs.Reading.{snap_version_at, are_bits, bits_in, bits_at, with_snap_count, after_bits, after_snap_version, snap_header_at, numbers_at, is_sealed, is_table, table_in, snap_ended, after_numbers, after_snap_header, file_table, nth_number}
use Rattle.rh_snapshot.proofs.Seal.{seal_bytes}
use Rattle.rh_snapshot.proofs.Whole.{is_good}
use Rattle.rh_snapshot.proofs.Keys.{numbers_fit, same_keys, tested}

-- ---- what is read is spelled so

version_read : (bytes : List ℕ) (p : Version × List ℕ) → snap_version_at bytes ≡ Ok p → bytes ≡ snap_magic p.0 ++ p.1
unfolding snap_version_at
version_read bytes p h = magic_read snap_magic First Second NotSnapshot Short bytes p h

abbrev pub InRange : Version → ℕ → Type 0
InRange version bits = (MIN_BITS ≤ bits) × (bits ≤ most_bits version)

one_byte : (xs : List ℕ) → length xs ≡ 1 → xs ≡ get_or xs 0 0 ∷ []
one_byte [] is = absurd (omega (arith, is))
one_byte (x ∷ []) is = refl
one_byte (x ∷ y ∷ xs) is = absurd (omega (arith, is))

bits_read : (version : Version) (bytes : List ℕ) (p : ℕ × List ℕ) → bits_at version bytes ≡ Ok p → (bytes ≡ p.0 ∷ p.1) × InRange version p.0
unfolding bits_at
bits_read version bytes p h =
    let s = then_ok (bytes_at Short 1 bytes) (bits_in version) p h in
    let g = bytes_read Short 1 bytes s.0 s.1 in
    let bits = get_or s.0.0 0 0 in
    let t = if_ok (are_bits version bits) (bits, s.0.1) BadBits p s.2 in
    let parts = and_parts (leb MIN_BITS bits) (leb bits (most_bits version)) t.0 in (
      g.whole ∙ ap (λ l. l ++ s.0.1) (one_byte s.0.0 g.many) ∙ ap (λ (q : ℕ × List ℕ). q.0 ∷ q.1) t.1,
      subst (λ (q : ℕ × List ℕ). InRange version q.0) t.1 (leb-true _ _ parts.0, leb-true _ _ parts.1),
    )

header_spelled : (version : Version) (bits count : ℕ) (rest : List ℕ) → snap_magic version ++ (bits ∷ (eight_bytes count ++ rest)) ≡ (snap_magic version ++ (bits ∷ eight_bytes count)) ++ rest
header_spelled version bits count rest = sym (append_assoc (snap_magic version) (bits ∷ eight_bytes count) rest)

pub header_read : (bytes : List ℕ) (p : Header × List ℕ) → snap_header_at bytes ≡ Ok p → (bytes ≡ spelled_header p.0 ++ p.1) × InRange p.0.version p.0.bits
unfolding snap_header_at
header_read bytes p h =
    let s = then_ok (snap_version_at bytes) after_snap_version p h in
    let t = then_ok (bits_at s.0.0 s.0.1) (after_bits s.0.0) p s.2 in
    let u = then_ok (number_at Short t.0.1) (with_snap_count s.0.0 t.0.0) p t.2 in
    let bits = bits_read s.0.0 s.0.1 t.0 t.1 in
    let header : Header = record { version = s.0.0; bits = t.0.0; count = u.0.0 } in
    let is : header ≡ p.0 = same_value (header, u.0.1) p u.2 in
    let rest : u.0.1 ≡ p.1 = same_rest (header, u.0.1) p u.2 in (
      version_read bytes s.0 s.1 ∙ ap (λ l. snap_magic s.0.0 ++ l) (bits.0 ∙ ap (λ l. t.0.0 ∷ l) (number_read Short t.0.1 u.0 u.1))
          ∙ header_spelled s.0.0 t.0.0 u.0.0 u.0.1 ∙ ap (λ (w : Header). spelled_header w ++ u.0.1) is ∙ ap (λ l. spelled_header p.0 ++ l) rest,
      subst (λ (w : Header). InRange w.version w.bits) is bits.1,
    )

numbers_read : (n : ℕ) (bytes : List ℕ) (p : List ℕ × List ℕ) → numbers_at n bytes ≡ Ok p → bytes ≡ spelled_numbers p.0 ++ p.1
numbers_read n bytes p h = (many_read nth_number (λ (n : ℕ). Unit {0}) (λ index bytes p h. (number_read Short bytes p h, tt)) 0 n bytes p h).whole

record Passed (header : Header) (numbers seal : List ℕ) (table : Table) : Type 0 where
  sealed_so : sha256 (text_of header numbers) ≡ seal
  test : is_table header numbers ≡ true
  is : table_with header numbers seal ≡ table

table_passed : (header : Header) (numbers seal : List ℕ) (table : Table) → table_in header numbers seal ≡ Ok table → Passed header numbers seal table
unfolding table_in
table_passed header numbers seal table h =
    let seals = if_then (is_sealed header numbers seal) (cond (is_table header numbers) (ok (table_with header numbers seal)) (Err NotALayout)) Damaged table h in
    let fits = if_ok (is_table header numbers) (table_with header numbers seal) NotALayout table seals.1 in
    record { sealed_so = (bytes_eq-Decides (sha256 (text_of header numbers)) seal).0 seals.0; test = fits.0; is = fits.1 }

with_seal : (header : Header) (numbers seal : List ℕ) → spelled_header header ++ (spelled_numbers numbers ++ seal) ≡ text_of header numbers ++ seal
with_seal header numbers seal = sym (append_assoc (spelled_header header) (spelled_numbers numbers) seal)

-- the parts of a whole file that was read
snapshot_read : (bytes : List ℕ) (header : Header) (numbers seal : List ℕ) (table : Table) → bytes ≡ text_of header numbers ++ seal → InRange header.version header.bits → Passed header numbers seal table → IsSnapshot bytes table
snapshot_read bytes header numbers seal table whole in_range passed =
    let t = tested header numbers passed.test in
    let own : Header = snap_header_of header.version header.bits numbers in
    let counted : header ≡ own = ap (λ n. record { version = header.version; bits = header.bits; count = n }) (sym t.count) in
    let text : text_of header numbers ≡ text_of own numbers = ap (λ (w : Header). text_of w numbers) counted in
    let file : SnapshotFile header.version bytes header.bits numbers = record {
      spelled = whole ∙ ap (λ s. text_of header numbers ++ s) (sym passed.sealed_so) ∙ ap (λ t. t ++ sha256 t) text;
      in_range = in_range;
      layout = t.layout;
      free = subst (λ n. n < 2 ^ header.bits) (sym t.count) t.free;
    } in
    let of_header : table_with header numbers seal ≡ table_of header.version header.bits numbers =
    ap (λ (w : Header). table_with w numbers seal) counted ∙ ap (table_with own numbers) (sym passed.sealed_so ∙ ap sha256 text) in
    let found : SnapshotOf header.version bytes numbers (table_with header numbers seal) = record { file = file; same = of_header; keys = same_keys header.version numbers } in
    subst (IsSnapshot bytes) passed.is (header.version, numbers, found)

pub file_read : (bytes : List ℕ) (p : Table × List ℕ) → file_table bytes ≡ Ok p → IsSnapshot bytes p.0 × (p.1 ≡ [])
unfolding file_table
file_read bytes p h =
    let s = then_ok (snap_header_at bytes) after_snap_header p h in
    let header = s.0.0 in
    let t = then_ok (numbers_at (2 ^ header.bits) s.0.1) (after_numbers header) p s.2 in
    let u = then_ok (bytes_at Short 32 t.0.1) (λ seal. table_in header t.0.0 seal.0 >>= snap_ended seal.1) p t.2 in
    let v = then_ok (table_in header t.0.0 u.0.0) (snap_ended u.0.1) p u.2 in
    let w = then_ok (end_at Long u.0.1) (λ end. Ok (v.0, end.1)) p v.2 in
    let head = header_read bytes s.0 s.1 in
    let end = end_read Long u.0.1 w.0 w.1 in
    let is : v.0 ≡ p.0 = same_value (v.0, w.0.1) p w.2 in
    let rest : p.1 ≡ [] = sym (same_rest (v.0, w.0.1) p w.2) ∙ end.1 in
    let body : s.0.1 ≡ spelled_numbers t.0.0 ++ u.0.0 =
    numbers_read (2 ^ header.bits) s.0.1 t.0 t.1 ∙ ap (λ l. spelled_numbers t.0.0 ++ l) ((bytes_read Short 32 t.0.1 u.0 u.1).whole ∙ ap (λ l. u.0.0 ++ l) end.0 ∙ append-nil u.0.0) in
    let whole : bytes ≡ text_of header t.0.0 ++ u.0.0 = head.0 ∙ ap (λ l. spelled_header header ++ l) body ∙ with_seal header t.0.0 u.0.0 in
    (subst (IsSnapshot bytes) is (snapshot_read bytes header t.0.0 u.0.0 v.0 whole head.1 (table_passed header t.0.0 u.0.0 v.0 v.1)), rest)

-- ---- what is spelled is read

version_given : (version : Version) (rest : List ℕ) → snap_version_at (snap_magic version ++ rest) ≡ Ok (version, rest)
unfolding snap_version_at
version_given First rest = rw (bytes_given Short (snap_magic First) rest 4 refl refl) refl
version_given Second rest = rw (bytes_given Short (snap_magic Second) rest 4 refl refl) refl

few_bits : (version : Version) (bits : ℕ) → bits ≤ most_bits version → bits ≤ MAX_BITS
few_bits First bits le = omega (arith, le)
few_bits Second bits le = le

bits_given : (version : Version) (bits : ℕ) (rest : List ℕ) → InRange version bits → bits_at version (bits ∷ rest) ≡ Ok (bits, rest)
unfolding bits_at
bits_given version bits rest fits =
    let byte : is_byte bits ≡ true = lt-ltb bits 256 (omega (arith, few_bits version bits fits.1)) in
    let test : are_bits version bits ≡ true = and_from (leb MIN_BITS bits) (leb bits (most_bits version)) (le-leb _ _ fits.0) (le-leb _ _ fits.1) in
    ap (λ r. r >>= bits_in version) (bytes_given Short (bits ∷ []) rest 1 refl (and_from (is_byte bits) true byte refl)) ∙ rw test refl

header_given : (header : Header) (rest : List ℕ) → InRange header.version header.bits → header.count < 2 ^ 64 → snap_header_at (spelled_header header ++ rest) ≡ Ok (header, rest)
unfolding snap_header_at
header_given header rest fits small =
    let version = header.version in
    let bits = header.bits in
    ap snap_header_at (sym (header_spelled version bits header.count rest)) ∙ ap (λ r. r >>= after_snap_version) (version_given version (bits ∷ (eight_bytes header.count ++ rest)))
    ∙ ap (λ r. r >>= after_bits version) (bits_given version bits (eight_bytes header.count ++ rest) fits)
    ∙ ap (λ r. r >>= with_snap_count version bits) (number_given Short header.count rest small)

abbrev Fits : ℕ → Type 0
Fits n = n < 2 ^ 64

numbers_given : (numbers rest : List ℕ) → All Fits numbers → numbers_at (length numbers) (spelled_numbers numbers ++ rest) ≡ Ok (numbers, rest)
numbers_given numbers rest fit = many_given nth_number Fits (λ index n rest fits. number_given Short n rest fits) 0 numbers rest fit

end_given : (table : Table) → snap_ended [] table ≡ Ok (table, [])
unfolding end_at
end_given table = refl

seal_given : (header : Header) (numbers : List ℕ) → is_table header numbers ≡ true → after_numbers header (numbers, sha256 (text_of header numbers)) ≡ Ok (table_with header numbers (sha256 (text_of header numbers)), [])
seal_given header numbers test =
    let seal = sha256 (text_of header numbers) in
    let good : is_sealed header numbers seal ≡ true = (bytes_eq-Decides seal seal).1 refl in
    let read : bytes_at Short 32 seal ≡ Ok (seal, []) = ap (bytes_at Short 32) (sym (append-nil seal)) ∙ bytes_given Short seal [] 32 (length-sha256 (text_of header numbers)) (seal_bytes (text_of header numbers)) in
    ap (λ r. r >>= (λ s. table_in header numbers s.0 >>= snap_ended s.1)) read ∙ ap (λ r. r >>= snap_ended []) (is_good header numbers seal good test) ∙ end_given (table_with header numbers seal)

many_cells : (version : Version) (numbers : List ℕ) → length (cells_as version numbers) ≡ length numbers
many_cells First numbers = length-map numbers _
many_cells Second numbers = refl

small_power : (bits : ℕ) → bits ≤ MAX_BITS → 2 ^ bits ≤ 2 ^ MAX_BITS
small_power bits le = pow-le-pow_right (omega arith) le

all_fit : (version : Version) (bits : ℕ) (numbers : List ℕ) → IsLayout bits (cells_as version numbers) → All Fits numbers
all_fit version bits numbers layout = λ c d inside.
    let same = get_or_default numbers c d 0 inside in
    omega (arith, same, numbers_fit version bits numbers c layout inside)

pub file_given : (version : Version) (bytes : List ℕ) (bits : ℕ) (numbers : List ℕ) → SnapshotFile version bytes bits numbers → file_table bytes ≡ Ok (table_of version bits numbers, [])
unfolding file_table
file_given version bytes bits numbers f =
    let header = snap_header_of version bits numbers in
    let seal = sha256 (text_of header numbers) in
    let size : 2 ^ bits ≡ length numbers = sym f.layout.size ∙ many_cells version numbers in
    let small : header.count < 2 ^ 64 = omega (arith, f.free, small_power bits (few_bits version bits f.in_range.1)) in
    let test : is_table header numbers ≡ true = and_from _ _ (and_from _ _ (eq-eqb _ _ refl) (lt-ltb _ _ f.free)) ((layout_decided bits (cells_as version numbers)).1 f.layout) in
    ap file_table (f.spelled ∙ sym (with_seal header numbers seal)) ∙ ap (λ r. r >>= after_snap_header) (header_given header (spelled_numbers numbers ++ seal) f.in_range small)
    ∙ ap (λ n. numbers_at n (spelled_numbers numbers ++ seal) >>= after_numbers header) size
    ∙ ap (λ r. r >>= after_numbers header) (numbers_given numbers seal (all_fit version bits numbers f.layout))
    ∙ seal_given header numbers test

-- cells as they are written
pub second_file : (bits : ℕ) (cells : List ℕ) → IsLayout bits cells → set.len (keys_of cells) < 2 ^ bits → SnapshotFile Second (snap_spelling Second bits cells) bits cells
second_file bits cells layout free = record {
  spelled = refl;
  in_range = layout.bits;
  layout = layout;
  free = subst (λ n. n < 2 ^ bits) (sym (count_of_layout cells bits (keys_of cells) layout)) free;
}
