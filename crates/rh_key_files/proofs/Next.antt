-- The next batch, or the end.
use Rattle.std.proofs.Common.{◌≡◌, ℕ, ◌<◌, min, List, [], ◌++◌, length, Option, Some, None, Ok, Err, refl, sym, ap, ◌∙◌, eq-eqb, arith}
use Rattle.std.proofs.lemmas.Bool.{ne_eqb}
use Rattle.std.proofs.lemmas.List.{take_at}
use Rattle.rh_key_files.specs.declared.version.Version.{Version}
use Rattle.rh_key_files.specs.declared.fault.KeyFault.{KeyFault}
use Rattle.rh_key_files.specs.declared.fault.KeyFault.TheVariants.{Long}
use Rattle.rh_bytes.specs.Input.{always, end_at}
use Rattle.rh_key_files.specs.Reading.{CutShort, ReadsKeys, front_of, keys_at, batch_at}

pub none_left : (version : Version) (index left room : ℕ) (bytes : List ℕ) → left ≡ 0 → batch_at version index left room bytes ≡ end_at Long bytes
unfolding batch_at
none_left version index left room bytes e = rw (eq-eqb left 0 e) refl

pub some_left : (version : Version) (index left room many : ℕ) (bytes : List ℕ) → 0 < left → many ≡ min room left → batch_at version index left room bytes ≡ keys_at version index many bytes
unfolding batch_at
some_left version index left room many bytes lt e = rw (ne_eqb left 0 (λ z. omega (arith, z, lt)), e) refl

pub end_fails : (version : Version) (index left room : ℕ) (a b : Option (List ℕ)) (v : ℕ → List ℕ) (w : Unit {0} → List ℕ) (e : KeyFault) → left ≡ 0 → ReadsKeys a b (end_at Long) w (Err e) → ReadsKeys a b (batch_at version index left room) v (Err e)
end_fails version index left room None b v w e z h = tt
end_fails version index left room (Some x) b v w e z h = rw (none_left version index left room x z) h

pub end_comes : (version : Version) (index left room : ℕ) (a b : Option (List ℕ)) (xs : List ℕ) → left ≡ 0 → ReadsKeys a b (end_at Long) (λ (u : Unit {0}). []) (Ok tt) → ReadsKeys a b (batch_at version index left room) (front_of xs) (Ok 0)
end_comes version index left room None b xs z h = tt
end_comes version index left room (Some x) None xs z h = absurd h
end_comes version index left room (Some x) (Some y) xs z h = none_left version index left room x z ∙ h

pub keys_fail : (version : Version) (index left room many : ℕ) (a b : Option (List ℕ)) (v : ℕ → List ℕ) (w : Unit {0} → List ℕ) (e : KeyFault) → 0 < left → many ≡ min room left → ReadsKeys a b (keys_at version index many) w (Err e) → ReadsKeys a b (batch_at version index left room) v (Err e)
keys_fail version index left room many None b v w e lt m h = tt
keys_fail version index left room many (Some x) b v w e lt m h = rw (some_left version index left room many x lt m) h

pub keys_come : (version : Version) (index left room many : ℕ) (a b : Option (List ℕ)) (ks rest : List ℕ) → 0 < left → many ≡ min room left → length ks ≡ many → ReadsKeys a b (keys_at version index (length ks)) (always {X = Unit {0}} ks) (Ok tt) → ReadsKeys a b (batch_at version index left room) (front_of (ks ++ rest)) (Ok many)
keys_come version index left room many None b ks rest lt m len h = tt
keys_come version index left room many (Some x) None ks rest lt m len h = absurd h
keys_come version index left room many (Some x) (Some y) ks rest lt m len h = some_left version index left room many x lt m ∙ ap (λ n. keys_at version index n x) (sym len) ∙ h ∙ ap (λ l. Ok (l, y)) (sym (take_at ks rest many len))

-- the batch that a failed read cut short
pub keys_cut : (version : Version) (index left room many : ℕ) (a b : Option (List ℕ)) → 0 < left → many ≡ min room left → CutShort a b (keys_at version index many) → CutShort a b (batch_at version index left room)
keys_cut version index left room many None b some is h = tt
keys_cut version index left room many (Some x) None some is h = absurd h
keys_cut version index left room many (Some x) (Some y) some is (taken, parts, early) = (taken, parts, some_left version index left room many taken some is ∙ early)
