-- Which faults come where, and how many bytes are taken before they are told.
use Rattle.std.proofs.Common.{◌≡◌, ◌∙◌, refl, sym, ap, subst, ℕ, zero, suc, ◌+◌, ◌*◌, ◌≤◌, le_refl, List, Option, Some, None, Result, Ok, Err, inl, inr, arith}
use Rattle.std.specs.Prelude.{nat_lt, IfErr, IsErrOf}
use Rattle.std.proofs.lemmas.Bool.{cases_Bool}
use Rattle.rh_key_files.specs.declared.version.Version.{Version}
use Rattle.rh_key_files.specs.declared.batch.TheConstants.{PART_KEYS}
use Rattle.rh_layout.specs.declared.limits.TheConstants.{MAX_KEYS}
use Rattle.rh_key_files.specs.declared.fault.KeyFault.{KeyFault}
use Rattle.rh_key_files.specs.declared.fault.KeyFault.TheVariants as faults
use Rattle.rh_key_files.specs.declared.fault.KeyFault.TheVariants.{NotKeys, Short, TooMany, BadKey, Long}
use Rattle.rh_key_files.specs.declared.header.Header.{Header}
use Rattle.rh_bytes.specs.Input.{◌>>=◌, number_at, end_at, with_head, many_at}
use Rattle.rh_key_files.specs.Reading.{KeysFail, ReadsKeys, few, count_at, is_key_in, in_range, key_at, keys_at, header_at}
use Rattle.rh_bytes.specs.Taking.{TakesAtMost}
use Rattle.rh_key_files.specs.Limits.{magic_bytes, header_bytes, header_taken, keys_taken, whole_bytes, most_bytes, file_bytes, count_in, count_said, TakesOfFile}
use Rattle.rh_bytes.proofs.Taking.{takes_of_unknown, takes_fewer, takes_then, takes_both}
use Rattle.rh_bytes.proofs.Told.{end_told, number_told, then_told}
use Rattle.rh_key_files.proofs.Grammar.{header_read}

-- ---- the header

-- the magic is not what is wrong
abbrev pub IsLater : KeyFault → Type 0
IsLater NotKeys = ⊥
IsLater e = Unit {0}

few_later : (n : ℕ × List ℕ) → IfErr (few n) IsLater
few_later n = elim (cases_Bool (nat_lt MAX_KEYS n.0)) [ inl more ↦ rw more tt | inr other ↦ rw other tt ]

count_later : (bytes : List ℕ) → IfErr (count_at bytes) IsLater
unfolding count_at
count_later bytes = then_told IsLater (number_at Short bytes) few (number_told IsLater Short tt bytes) few_later

magic_within : (e : KeyFault) → magic_bytes ≤ header_taken (Some e)
magic_within NotKeys = omega arith
magic_within e = omega arith

pub magic_stops : (a b : Option (List ℕ)) (e : KeyFault) → TakesAtMost a b magic_bytes → TakesAtMost a b (header_taken (Some e))
magic_stops a b e t = takes_fewer a b magic_bytes (header_taken (Some e)) t (magic_within e)

pub header_stops : (a b c : Option (List ℕ)) (e : KeyFault) → TakesAtMost a b magic_bytes → TakesAtMost b c 8 → ReadsKeys b c count_at (λ (n : ℕ). n) (Err e) → TakesAtMost a c (header_taken (Some e))
header_stops None b c e s t h = takes_of_unknown c (header_taken (Some e))
header_stops (Some x) None c e s t h = absurd s.consumed
header_stops (Some x) (Some y) c NotKeys s t h = absurd (subst (λ r. IfErr r IsLater) h (count_later y))
header_stops (Some x) (Some y) c e s t h = takes_then (Some x) (Some y) c magic_bytes 8 s t

-- ---- the keys

-- of keys from this index on
abbrev pub IsFrom : ℕ → KeyFault → Type 0
IsFrom index Short = Unit {0}
IsFrom index (BadKey bad) = index ≤ bad
IsFrom index e = ⊥

abbrev pub ComesFrom : {A : Type 0} → ℕ → Result A KeyFault → Type 0
ComesFrom index r = IfErr r (IsFrom index)

comes_before : {A : Type 0} (index : ℕ) (r : Result A KeyFault) → ComesFrom (index + 1) r → ComesFrom index r
comes_before index (Ok x) h = tt
comes_before index (Err Short) h = tt
comes_before index (Err (BadKey bad)) h = omega arith
comes_before index (Err e) h = absurd h

test_comes : (version : Version) (index : ℕ) (k : ℕ × List ℕ) → ComesFrom index (in_range version index k)
test_comes version index k =
    elim (cases_Bool (is_key_in version k.0)) [ inl fits ↦ rw fits tt | inr other ↦ rw other (le_refl index) ]

key_comes : (version : Version) (index : ℕ) (bytes : List ℕ) → ComesFrom index (key_at version index bytes)
unfolding key_at
key_comes version index bytes =
    then_told (IsFrom index) (number_at Short bytes) (in_range version index) (number_told (IsFrom index) Short tt bytes) (test_comes version index)

pub keys_come : (version : Version) (index n : ℕ) (bytes : List ℕ) → ComesFrom index (keys_at version index n bytes)
unfolding many_at
keys_come version index zero bytes = tt
keys_come version index (suc n) bytes =
    then_told (IsFrom index) (key_at version index bytes) (λ first. keys_at version (index + 1) n first.1 >>= with_head first.0) (key_comes version index bytes)
    (λ first. then_told (IsFrom index) (keys_at version (index + 1) n first.1) (with_head first.0) (comes_before index (keys_at version (index + 1) n first.1) (keys_come version (index + 1) n first.1)) (λ others. tt))

-- a part in which there is a fault is the last that is taken
part_within : (index done many all : ℕ) (e : KeyFault) (r : Result (List ℕ × List ℕ) KeyFault) → many ≤ PART_KEYS → done + many ≤ all → ComesFrom (index + done) r → KeysFail e r → 8 * done + 8 * many ≤ 8 * keys_taken index all (Some e)
part_within index done many all (BadKey bad) r fits within comes fails =
    let from : index + done ≤ bad = subst (ComesFrom (index + done)) fails comes in
    omega arith
part_within index done many all e r fits within comes fails = omega (arith, within)

pub keys_stop : {X : Type 0} (v : X → List ℕ) (version : Version) (index done at many all : ℕ) (a b c : Option (List ℕ)) (e : KeyFault) → at ≡ index + done → many ≤ PART_KEYS → done + many ≤ all → TakesAtMost a b (8 * done) → TakesAtMost b c (8 * many) → ReadsKeys b c (keys_at version at many) v (Err e) → TakesAtMost a c (8 * keys_taken index all (Some e))
keys_stop v version index done at many all None b c e place fits within s t h = takes_of_unknown c (8 * keys_taken index all (Some e))
keys_stop v version index done at many all (Some x) None c e place fits within s t h = absurd s.consumed
keys_stop v version index done at many all (Some x) (Some y) c e place fits within s t h =
    takes_both (Some x) (Some y) c (8 * done) (8 * many) (8 * keys_taken index all (Some e)) s t
    (part_within index done many all e (keys_at version at many y) fits within (rw place (keys_come version (index + done) many y)) h)

-- ---- any file

few_said : (r : Result (Header × List ℕ) KeyFault) (bytes : List ℕ) → header_at bytes ≡ r → count_in r ≤ MAX_KEYS
few_said (Ok p) bytes h = (header_read bytes p h).1
few_said (Err e) bytes h = omega arith

count_few : (a : Option (List ℕ)) → count_said a ≤ MAX_KEYS
count_few None = omega arith
count_few (Some bytes) = few_said (header_at bytes) bytes refl

file_fits : (count : ℕ) (fault : Option KeyFault) → count ≤ MAX_KEYS → file_bytes count fault ≤ most_bytes
file_fits count None few = omega (arith, few)
file_fits count (Some NotKeys) few = omega (arith, few)
file_fits count (Some e) few = omega (arith, few)

of_file : (a b : Option (List ℕ)) (fault : Option KeyFault) → TakesAtMost a b (file_bytes (count_said a) fault) → TakesOfFile a b fault
of_file a b fault t = record { taken = t; bounded = takes_fewer a b (file_bytes (count_said a) fault) most_bytes t (file_fits (count_said a) fault (count_few a)) }

of_unknown : (b : Option (List ℕ)) (fault : Option KeyFault) → TakesOfFile None b fault
of_unknown b fault = of_file None b fault (takes_of_unknown b (file_bytes 0 fault))

-- ---- a whole file

-- the bytes do not end
abbrev pub IsLong : KeyFault → Type 0
IsLong Long = Unit {0}
IsLong e = ⊥

keys_fit : (X : Type 0) (count : ℕ) (e : KeyFault) (r : Result (List ℕ × List ℕ) KeyFault) → (IsErrOf {T = X} (Err e) faults.Memory → ⊥) → ComesFrom 0 r → KeysFail e r → header_bytes + 8 * keys_taken 0 count (Some e) ≤ file_bytes count (Some e)
keys_fit X count faults.Memory r other comes fails = absurd (other refl)
keys_fit X count NotKeys r other comes fails = absurd (subst (ComesFrom 0) fails comes)
keys_fit X count TooMany r other comes fails = absurd (subst (ComesFrom 0) fails comes)
keys_fit X count e r other comes fails = omega arith

end_fits : (X : Type 0) (count : ℕ) (e : KeyFault) (r : Result (List ℕ × List ℕ) KeyFault) → (IsErrOf {T = X} (Err e) faults.Memory → ⊥) → IfErr r IsLong → KeysFail e r → whole_bytes count ≤ file_bytes count (Some e)
end_fits X count faults.Memory r other ends fails = absurd (other refl)
end_fits X count NotKeys r other ends fails = absurd (subst (λ r. IfErr r IsLong) fails ends)
end_fits X count TooMany r other ends fails = absurd (subst (λ r. IfErr r IsLong) fails ends)
end_fits X count (BadKey index) r other ends fails = absurd (subst (λ r. IfErr r IsLong) fails ends)
end_fits X count e r other ends fails = omega arith

-- the header that was read, of a file of so many keys
pub record HeaderRead (a b : Option (List ℕ)) (version : Version) (count : ℕ) : Type 0 where
  pub said : ℕ
  pub read : ReadsKeys a b header_at (λ (h : Header). h) (Ok (record { version = version; count = said }))
  pub same : count ≡ said
  pub taken : TakesAtMost a b header_bytes

count_is : (bytes : List ℕ) (b : Option (List ℕ)) (version : Version) (count : ℕ) → HeaderRead (Some bytes) b version count → count_said (Some bytes) ≡ count
count_is bytes None version count h = absurd h.read
count_is bytes (Some rest) version count h = ap count_in h.read ∙ sym h.same

pub file_stops_in_keys : {X : Type 0} (a b c : Option (List ℕ)) (version : Version) (count : ℕ) (v : X → List ℕ) (e : KeyFault) → HeaderRead a b version count → (IsErrOf {T = X} (Err e) faults.Memory → ⊥) → TakesAtMost b c (8 * keys_taken 0 count (Some e)) → ReadsKeys b c (keys_at version 0 count) v (Err e) → TakesOfFile a c (Some e)
file_stops_in_keys None b c version count v e h other t fails = of_unknown c (Some e)
file_stops_in_keys (Some x) None c version count v e h other t fails = absurd h.read
file_stops_in_keys {X = X} (Some x) (Some y) c version count v e h other t fails =
    of_file (Some x) c (Some e) (subst (λ n. TakesAtMost (Some x) c (file_bytes n (Some e))) (sym (count_is x (Some y) version count h)) (takes_both (Some x) (Some y) c header_bytes (8 * keys_taken 0 count (Some e)) (file_bytes count (Some e)) h.taken t
    (keys_fit X count e (keys_at version 0 count y) other (keys_come version 0 count y) fails)))

pub file_stops_at_end : {X : Type 0} (a b c d : Option (List ℕ)) (version : Version) (count : ℕ) (v : X → List ℕ) (e : KeyFault) → HeaderRead a b version count → (IsErrOf {T = X} (Err e) faults.Memory → ⊥) → TakesAtMost b c (8 * count) → TakesAtMost c d 1 → ReadsKeys c d (end_at Long) v (Err e) → TakesOfFile a d (Some e)
file_stops_at_end None b c d version count v e h other s t fails = of_unknown d (Some e)
file_stops_at_end (Some x) None c d version count v e h other s t fails = absurd h.read
file_stops_at_end (Some x) (Some y) None d version count v e h other s t fails = absurd s.consumed
file_stops_at_end {X = X} (Some x) (Some y) (Some z) d version count v e h other s t fails =
    of_file (Some x) d (Some e) (subst (λ n. TakesAtMost (Some x) d (file_bytes n (Some e))) (sym (count_is x (Some y) version count h)) (takes_both (Some x) (Some z) d (header_bytes + 8 * count) 1 (file_bytes count (Some e)) (takes_then (Some x) (Some y) (Some z) header_bytes (8 * count) h.taken s) t
    (end_fits X count e (end_at Long z) other (end_told IsLong Long tt z) fails)))

pub file_taken : (a b c d : Option (List ℕ)) (version : Version) (count : ℕ) → HeaderRead a b version count → TakesAtMost b c (8 * count) → TakesAtMost c d 1 → TakesOfFile a d None
file_taken None b c d version count h s t = of_unknown d None
file_taken (Some x) b c d version count h s t =
    of_file (Some x) d None (subst (λ n. TakesAtMost (Some x) d (whole_bytes n)) (sym (count_is x b version count h)) (takes_then (Some x) c d (header_bytes + 8 * count) 1 (takes_then (Some x) b c header_bytes (8 * count) h.taken s) t))
