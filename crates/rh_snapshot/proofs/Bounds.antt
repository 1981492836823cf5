-- Which faults come where in a snapshot, and how many bytes are taken before they are told.
use Rattle.std.proofs.Common.{◌≡◌, refl, sym, ap, subst, ℕ, zero, suc, ◌+◌, ◌*◌, ◌≤◌, ◌^◌, List, Option, Some, None, Result, Ok, Err, inl, inr, arith}
use Rattle.std.specs.Prelude.{IsErrOf, slice_index, IfErr}
use Rattle.std.proofs.Math.Pow.{pow_mono}
use Rattle.std.proofs.lemmas.Bool.{cases_Bool}
use Rattle.rh_layout.specs.declared.limits.TheConstants.{MAX_BITS}
use Rattle.rh_bytes.specs.Taking.{TakesAtMost}
use Rattle.rh_bytes.specs.Input.{◌>>=◌, bytes_at, number_at, end_at, many_at, with_head}
use Rattle.rh_bytes.proofs.Taking.{takes_of_unknown, takes_fewer, takes_then, takes_both}
use Rattle.rh_bytes.proofs.Told.{then_told, bytes_told, number_told, end_told}
use Rattle.rh_snapshot.specs.declared.version.Version.{Version}
use Rattle.rh_snapshot.specs.declared.version.Version.TheVariants.{First, Second}
use Rattle.rh_snapshot.specs.declared.header.Header.{Header}
use Rattle.rh_snapshot.specs.declared.fault.SnapFault.{SnapFault}
use Rattle.rh_snapshot.specs.declared.fault.SnapFault.TheVariants as faults
use Rattle.rh_snapshot.specs.declared.fault.SnapFault.TheVariants.{NotSnapshot, Short, BadBits, Damaged, NotALayout, Long}
use Rattle.rh_snapshot.specs.Reading.{SnapFails, ReadsSnap, are_bits, bits_in, bits_at, snap_header_at, numbers_at, nth_number}
use Rattle.rh_snapshot.specs.Limits.{snap_magic_bytes, snap_header_bytes, seal_bytes, snap_header_taken, numbers_taken, sealed_bytes, whole_snap_bytes, snap_bytes, most_snap_bytes, cells_in, cells_said, TakesOfSnap}
use Rattle.rh_snapshot.proofs.Whole.{HeaderRead}
use Rattle.rh_snapshot.proofs.Grammar.{InRange, header_read}

-- ---- the header

-- the magic is not what is wrong
abbrev IsNamed : SnapFault → Type 0
IsNamed NotSnapshot = ⊥
IsNamed e = Unit {0}

bits_in_named : (version : Version) (one : List ℕ × List ℕ) → IfErr (bits_in version one) IsNamed
bits_in_named version one = elim (cases_Bool (are_bits version (slice_index one.0 0))) [ inl fits ↦ rw fits tt | inr other ↦ rw other tt ]

bits_named : (version : Version) (bytes : List ℕ) → IfErr (bits_at version bytes) IsNamed
unfolding bits_at
bits_named version bytes = then_told IsNamed (bytes_at Short 1 bytes) (bits_in version) (bytes_told IsNamed Short tt 1 bytes) (bits_in_named version)

-- neither the magic nor the bits are
abbrev IsLater : SnapFault → Type 0
IsLater NotSnapshot = ⊥
IsLater BadBits = ⊥
IsLater e = Unit {0}

number_later : (bytes : List ℕ) → IfErr (number_at Short bytes) IsLater
number_later bytes = number_told IsLater Short tt bytes

magic_within : (e : SnapFault) → snap_magic_bytes ≤ snap_header_taken (Some e)
magic_within NotSnapshot = omega arith
magic_within BadBits = omega arith
magic_within e = omega arith

pub magic_stops : (a b : Option (List ℕ)) (e : SnapFault) → TakesAtMost a b snap_magic_bytes → TakesAtMost a b (snap_header_taken (Some e))
magic_stops a b e t = takes_fewer a b snap_magic_bytes (snap_header_taken (Some e)) t (magic_within e)

pub header_stops_at_bits : (a b c : Option (List ℕ)) (version : Version) (e : SnapFault) → TakesAtMost a b snap_magic_bytes → TakesAtMost b c 1 → ReadsSnap b c (bits_at version) (λ (n : ℕ). n) (Err e) → TakesAtMost a c (snap_header_taken (Some e))
header_stops_at_bits None b c version e s t h = takes_of_unknown c (snap_header_taken (Some e))
header_stops_at_bits (Some x) None c version e s t h = absurd s.consumed
header_stops_at_bits (Some x) (Some y) c version NotSnapshot s t h = absurd (subst (λ r. IfErr r IsNamed) h (bits_named version y))
header_stops_at_bits (Some x) (Some y) c version e s t h = takes_both (Some x) (Some y) c snap_magic_bytes 1 (snap_header_taken (Some e)) s t (omega arith)

pub header_taken_whole : (a b c d : Option (List ℕ)) → TakesAtMost a b snap_magic_bytes → TakesAtMost b c 1 → TakesAtMost c d 8 → TakesAtMost a d snap_header_bytes
header_taken_whole a b c d s t u = takes_then a c d (snap_magic_bytes + 1) 8 (takes_then a b c snap_magic_bytes 1 s t) u

pub header_stops_at_count : (a b c d : Option (List ℕ)) (e : SnapFault) → TakesAtMost a b snap_magic_bytes → TakesAtMost b c 1 → TakesAtMost c d 8 → ReadsSnap c d (number_at Short) (λ (n : ℕ). n) (Err e) → TakesAtMost a d (snap_header_taken (Some e))
header_stops_at_count None b c d e s t u h = takes_of_unknown d (snap_header_taken (Some e))
header_stops_at_count (Some x) None c d e s t u h = absurd s.consumed
header_stops_at_count (Some x) (Some y) None d e s t u h = absurd t.consumed
header_stops_at_count (Some x) (Some y) (Some z) d NotSnapshot s t u h = absurd (subst (λ r. IfErr r IsLater) h (number_later z))
header_stops_at_count (Some x) (Some y) (Some z) d BadBits s t u h = absurd (subst (λ r. IfErr r IsLater) h (number_later z))
header_stops_at_count (Some x) (Some y) (Some z) d e s t u h = header_taken_whole (Some x) (Some y) (Some z) d s t u

-- ---- what comes after it

many_later : (index n : ℕ) (bytes : List ℕ) → IfErr (many_at nth_number index n bytes) IsLater
unfolding many_at
many_later index zero bytes = tt
many_later index (suc n) bytes =
    then_told IsLater (number_at Short bytes) (λ first. many_at nth_number (index + 1) n first.1 >>= with_head first.0) (number_later bytes)
    (λ first. then_told IsLater (many_at nth_number (index + 1) n first.1) (with_head first.0) (many_later (index + 1) n first.1) (λ others. tt))

-- the bytes do not end
abbrev IsLong : SnapFault → Type 0
IsLong Long = Unit {0}
IsLong e = ⊥

numbers_fit : (n : ℕ) (e : SnapFault) (r : Result (List ℕ × List ℕ) SnapFault) → IfErr r IsLater → SnapFails e r → snap_header_bytes + numbers_taken n (Some e) ≤ snap_bytes n (Some e)
numbers_fit n NotSnapshot r later fails = absurd (subst (λ r. IfErr r IsLater) fails later)
numbers_fit n BadBits r later fails = absurd (subst (λ r. IfErr r IsLater) fails later)
numbers_fit n e r later fails = omega arith

seal_fits : (X : Type 0) (n : ℕ) (e : SnapFault) (r : Result (List ℕ × List ℕ) SnapFault) → (IsErrOf {T = X} (Err e) faults.Memory → ⊥) → IfErr r IsLater → SnapFails e r → sealed_bytes n ≤ snap_bytes n (Some e)
seal_fits X n faults.Memory r other later fails = absurd (other refl)
seal_fits X n NotSnapshot r other later fails = absurd (subst (λ r. IfErr r IsLater) fails later)
seal_fits X n BadBits r other later fails = absurd (subst (λ r. IfErr r IsLater) fails later)
seal_fits X n e r other later fails = omega arith

end_fits : (X : Type 0) (n : ℕ) (e : SnapFault) (r : Result (List ℕ × List ℕ) SnapFault) → (IsErrOf {T = X} (Err e) faults.Memory → ⊥) → IfErr r IsLong → SnapFails e r → whole_snap_bytes n ≤ snap_bytes n (Some e)
end_fits X n faults.Memory r other ends fails = absurd (other refl)
end_fits X n faults.Read r other ends fails = omega arith
end_fits X n Long r other ends fails = omega arith
end_fits X n e r other ends fails = absurd (subst (λ r. IfErr r IsLong) fails ends)

-- ---- any file

at_most_bits : (version : Version) (bits : ℕ) → InRange version bits → bits ≤ MAX_BITS
at_most_bits First bits h = omega (arith, h.1)
at_most_bits Second bits h = h.1

few_cells : (r : Result (Header × List ℕ) SnapFault) (bytes : List ℕ) → snap_header_at bytes ≡ r → cells_in r ≤ 2 ^ MAX_BITS
few_cells (Ok p) bytes h = pow_mono (at_most_bits p.0.version p.0.bits (header_read bytes p h).1)
few_cells (Err e) bytes h = omega arith

cells_few : (a : Option (List ℕ)) → cells_said a ≤ 2 ^ MAX_BITS
cells_few None = omega arith
cells_few (Some bytes) = few_cells (snap_header_at bytes) bytes refl

file_fits : (cells : ℕ) (fault : Option SnapFault) → cells ≤ 2 ^ MAX_BITS → snap_bytes cells fault ≤ most_snap_bytes
file_fits cells None few = omega (arith, few)
file_fits cells (Some NotSnapshot) few = omega (arith, few)
file_fits cells (Some e) few = omega (arith, few)

of_file : (a b : Option (List ℕ)) (fault : Option SnapFault) → TakesAtMost a b (snap_bytes (cells_said a) fault) → TakesOfSnap a b fault
of_file a b fault t = record { taken = t; bounded = takes_fewer a b (snap_bytes (cells_said a) fault) most_snap_bytes t (file_fits (cells_said a) fault (cells_few a)) }

of_unknown : (b : Option (List ℕ)) (fault : Option SnapFault) → TakesOfSnap None b fault
of_unknown b fault = of_file None b fault (takes_of_unknown b (snap_bytes 0 fault))

-- ---- a whole file

cells_are : (bytes : List ℕ) (b : Option (List ℕ)) (header : Header) → HeaderRead (Some bytes) b (Ok header) → cells_said (Some bytes) ≡ 2 ^ header.bits
cells_are bytes None header h = absurd h
cells_are bytes (Some rest) header h = ap cells_in h

-- so many bytes were taken, which are no more than those of this fault
pub takes_within : (a b d : Option (List ℕ)) (header : Header) (n : ℕ) (fault : Option SnapFault) → HeaderRead a b (Ok header) → TakesAtMost a d n → n ≤ snap_bytes (2 ^ header.bits) fault → TakesOfSnap a d fault
takes_within None b d header n fault h t fits = of_unknown d fault
takes_within (Some x) b d header n fault h t fits =
    of_file (Some x) d fault (subst (λ cells. TakesAtMost (Some x) d (snap_bytes cells fault)) (sym (cells_are x b header h)) (takes_fewer (Some x) d n (snap_bytes (2 ^ header.bits) fault) t fits))

pub file_stops_in_numbers : {N : Type 0} (v : N → List ℕ) (a b c : Option (List ℕ)) (header : Header) (e : SnapFault) → HeaderRead a b (Ok header) → TakesAtMost a b snap_header_bytes → TakesAtMost b c (numbers_taken (2 ^ header.bits) (Some e)) → ReadsSnap b c (numbers_at (2 ^ header.bits)) v (Err e) → TakesOfSnap a c (Some e)
file_stops_in_numbers v None b c header e h s t fails = of_unknown c (Some e)
file_stops_in_numbers v (Some x) None c header e h s t fails = absurd h
file_stops_in_numbers v (Some x) (Some y) c header e h s t fails =
    takes_within (Some x) (Some y) c header (snap_header_bytes + numbers_taken (2 ^ header.bits) (Some e)) (Some e) h (takes_then (Some x) (Some y) c snap_header_bytes (numbers_taken (2 ^ header.bits) (Some e)) s t)
    (numbers_fit (2 ^ header.bits) e (numbers_at (2 ^ header.bits) y) (many_later 0 (2 ^ header.bits) y) fails)

pub takes_sealed : (a b c d : Option (List ℕ)) (n : ℕ) → TakesAtMost a b snap_header_bytes → TakesAtMost b c (8 * n) → TakesAtMost c d seal_bytes → TakesAtMost a d (sealed_bytes n)
takes_sealed a b c d n s t u = takes_then a c d (snap_header_bytes + 8 * n) seal_bytes (takes_then a b c snap_header_bytes (8 * n) s t) u

pub file_stops_in_seal : {S : Type 0} (v : S → List ℕ) (a b c d : Option (List ℕ)) (header : Header) (e : SnapFault) → HeaderRead a b (Ok header) → (IsErrOf {T = S} (Err e) faults.Memory → ⊥) → TakesAtMost a c (snap_header_bytes + 8 * 2 ^ header.bits) → TakesAtMost c d seal_bytes → ReadsSnap c d (bytes_at Short 32) v (Err e) → TakesOfSnap a d (Some e)
file_stops_in_seal v None b c d header e h other s t fails = of_unknown d (Some e)
file_stops_in_seal v (Some x) b None d header e h other s t fails = absurd s.consumed
file_stops_in_seal {S = S} v (Some x) b (Some z) d header e h other s t fails =
    takes_within (Some x) b d header (sealed_bytes (2 ^ header.bits)) (Some e) h (takes_then (Some x) (Some z) d (snap_header_bytes + 8 * 2 ^ header.bits) seal_bytes s t)
    (seal_fits S (2 ^ header.bits) e (bytes_at Short 32 z) other (bytes_told IsLater Short tt 32 z) fails)

pub file_stops_at_end : {X : Type 0} (v : X → List ℕ) (a b c d : Option (List ℕ)) (header : Header) (e : SnapFault) → HeaderRead a b (Ok header) → (IsErrOf {T = X} (Err e) faults.Memory → ⊥) → TakesAtMost a c (sealed_bytes (2 ^ header.bits)) → TakesAtMost c d 1 → ReadsSnap c d (end_at Long) v (Err e) → TakesOfSnap a d (Some e)
file_stops_at_end v None b c d header e h other s t fails = of_unknown d (Some e)
file_stops_at_end v (Some x) b None d header e h other s t fails = absurd s.consumed
file_stops_at_end {X = X} v (Some x) b (Some z) d header e h other s t fails =
    takes_within (Some x) b d header (whole_snap_bytes (2 ^ header.bits)) (Some e) h (takes_then (Some x) (Some z) d (sealed_bytes (2 ^ header.bits)) 1 s t)
    (end_fits X (2 ^ header.bits) e (end_at Long z) other (end_told IsLong Long tt z) fails)
