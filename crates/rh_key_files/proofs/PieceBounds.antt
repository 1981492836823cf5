-- How many bytes are taken of a key file of any number of keys, behind its magic.
use Rattle.std.proofs.Common.{◌≡◌, ℕ, ◌+◌, ◌*◌, ◌≤◌, List, Option, Some, None, Result, Ok, Err, refl, sym, ap, subst, arith}
use Rattle.std.specs.Prelude.{IfErr, IsErrOf}
use Rattle.rh_key_files.specs.declared.version.Version.{Version}
use Rattle.rh_key_files.specs.declared.fault.KeyFault.{KeyFault}
use Rattle.rh_key_files.specs.declared.fault.KeyFault.TheVariants as faults
use Rattle.rh_key_files.specs.declared.fault.KeyFault.TheVariants.{BadKey, Long, Short}
use Rattle.rh_bytes.specs.Input.{end_at, number_at}
use Rattle.rh_bytes.specs.Taking.{TakesAtMost}
use Rattle.rh_bytes.proofs.Taking.{takes_both, takes_fewer, takes_of_unknown, takes_then}
use Rattle.rh_bytes.proofs.Told.{end_told}
use Rattle.rh_key_files.specs.Limits.{TakesBehindMagic, bytes_behind, first_number, keys_taken, number_said}
use Rattle.rh_key_files.specs.Reading.{KeysFail, ReadsKeys, keys_at}
use Rattle.rh_key_files.proofs.Bounds.{ComesFrom, IsLong, keys_come}

-- the number of keys that was read
pub record NumberRead (a b : Option (List ℕ)) (count : ℕ) : Type 0 where
  pub read : ReadsKeys a b (number_at Short) (λ (n : ℕ). n) (Ok count)
  pub taken : TakesAtMost a b 8

said_is : (bytes : List ℕ) (b : Option (List ℕ)) (count : ℕ) → NumberRead (Some bytes) b count → number_said (Some bytes) ≡ count
said_is bytes None count h = absurd h.read
said_is bytes (Some rest) count h = ap first_number h.read

-- ---- the number

number_within : (count : ℕ) (e : KeyFault) → 8 ≤ bytes_behind count (Some e)
number_within count (BadKey index) = omega arith
number_within count e = omega arith

pub number_stops : (a b : Option (List ℕ)) (e : KeyFault) → TakesAtMost a b 8 → TakesBehindMagic a b (Some e)
number_stops a b e t = takes_fewer a b 8 (bytes_behind (number_said a) (Some e)) t (number_within (number_said a) e)

-- ---- the keys

piece_fits : (count done many : ℕ) (e : KeyFault) (r : Result (List ℕ × List ℕ) KeyFault) → done + many ≤ count → ComesFrom done r → KeysFail e r → 8 + 8 * done + 8 * keys_taken done many (Some e) ≤ bytes_behind count (Some e)
piece_fits count done many (BadKey bad) r within comes fails =
    let from : done ≤ bad = subst (ComesFrom done) fails comes in
    omega arith
piece_fits count done many e r within comes fails = omega (arith, within)

-- a fault in a piece
pub piece_stops : {X : Type 0} (a b c d : Option (List ℕ)) (version : Version) (count done many : ℕ) (v : X → List ℕ) (e : KeyFault) → NumberRead a b count → done + many ≤ count → TakesAtMost b c (8 * done) → TakesAtMost c d (8 * keys_taken done many (Some e)) → ReadsKeys c d (keys_at version done many) v (Err e) → TakesBehindMagic a d (Some e)
piece_stops None b c d version count done many v e h within s t fails = takes_of_unknown d (bytes_behind 0 (Some e))
piece_stops (Some x) None c d version count done many v e h within s t fails = absurd h.read
piece_stops (Some x) (Some y) None d version count done many v e h within s t fails = absurd s.consumed
piece_stops (Some x) (Some y) (Some z) d version count done many v e h within s t fails =
    subst (λ n. TakesAtMost (Some x) d (bytes_behind n (Some e))) (sym (said_is x (Some y) count h))
    (takes_both (Some x) (Some z) d (8 + 8 * done) (8 * keys_taken done many (Some e)) (bytes_behind count (Some e)) (takes_then (Some x) (Some y) (Some z) 8 (8 * done) h.taken s) t
    (piece_fits count done many e (keys_at version done many z) within (keys_come version done many z) fails))

-- no memory for a piece that was read
pub memory_stops : (a b c : Option (List ℕ)) (count done : ℕ) → NumberRead a b count → done ≤ count → TakesAtMost b c (8 * done) → TakesBehindMagic a c (Some faults.Memory)
memory_stops None b c count done h within s = takes_of_unknown c (bytes_behind 0 (Some faults.Memory))
memory_stops (Some x) b c count done h within s =
    subst (λ n. TakesAtMost (Some x) c (bytes_behind n (Some faults.Memory))) (sym (said_is x b count h))
    (takes_both (Some x) b c 8 (8 * done) (8 + 8 * count) h.taken s (omega (arith, within)))

-- ---- the end

end_fits : (X : Type 0) (count : ℕ) (e : KeyFault) (r : Result (List ℕ × List ℕ) KeyFault) → (IsErrOf {T = X} (Err e) faults.Memory → ⊥) → IfErr r IsLong → KeysFail e r → 8 + 8 * count + 1 ≤ bytes_behind count (Some e)
end_fits X count faults.Memory r other ends fails = absurd (other refl)
end_fits X count (BadKey index) r other ends fails = absurd (subst (λ r. IfErr r IsLong) fails ends)
end_fits X count e r other ends fails = omega arith

pub end_stops : {X : Type 0} (a b c d : Option (List ℕ)) (count : ℕ) (v : X → List ℕ) (e : KeyFault) → NumberRead a b count → (IsErrOf {T = X} (Err e) faults.Memory → ⊥) → TakesAtMost b c (8 * count) → TakesAtMost c d 1 → ReadsKeys c d (end_at Long) v (Err e) → TakesBehindMagic a d (Some e)
end_stops None b c d count v e h other s t fails = takes_of_unknown d (bytes_behind 0 (Some e))
end_stops (Some x) None c d count v e h other s t fails = absurd h.read
end_stops (Some x) (Some y) None d count v e h other s t fails = absurd s.consumed
end_stops {X = X} (Some x) (Some y) (Some z) d count v e h other s t fails =
    subst (λ n. TakesAtMost (Some x) d (bytes_behind n (Some e))) (sym (said_is x (Some y) count h))
    (takes_both (Some x) (Some z) d (8 + 8 * count) 1 (bytes_behind count (Some e)) (takes_then (Some x) (Some y) (Some z) 8 (8 * count) h.taken s) t
    (end_fits X count e (end_at Long z) other (end_told IsLong Long tt z) fails))

pub all_taken : (a b c d : Option (List ℕ)) (count : ℕ) → NumberRead a b count → TakesAtMost b c (8 * count) → TakesAtMost c d 1 → TakesBehindMagic a d None
all_taken None b c d count h s t = takes_of_unknown d (bytes_behind 0 None)
all_taken (Some x) b c d count h s t =
    subst (λ n. TakesAtMost (Some x) d (bytes_behind n None)) (sym (said_is x b count h))
    (takes_then (Some x) c d (8 + 8 * count) 1 (takes_then (Some x) b c 8 (8 * count) h.taken s) t)
