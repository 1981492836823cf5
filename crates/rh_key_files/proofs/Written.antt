-- Key files, written text by text.
use Rattle.std.proofs.Common.{◌≡◌, ℕ, suc, ◌<◌, List, [], ◌++◌, length, take, drop, Option, Result, ap, ◌∙◌, subst, arith, append_assoc, append-nil, get_or}
use Rattle.std.proofs.lemmas.List.{drop_all}
use Rattle.byteorder.specs.Endian.{big_bytes}
use Rattle.rh_bytes.specs.Counting.{Emitted, EmittedFront, Emits}
use Rattle.rh_bytes.specs.declared.counted.Counted.{Counted}
use Rattle.rh_bytes.specs.Input.{eight_bytes}
use Rattle.rh_bytes.proofs.Writing.{emitted_longer, emitted_then, emitting_stops, split_at_place}
use Rattle.rh_key_files.specs.declared.version.Version.TheVariants.{Second}
use Rattle.rh_key_files.specs.KeyFile.{header, magic, spelled_keys, spelling}

pub header_written : {X E V : Type 0} (contents : V → Option (List ℕ)) (a b : Counted V) (n : ℕ) (four count : List ℕ) (r : Result X E) → four ≡ magic Second → count ≡ eight_bytes n → Emits contents a b (four ++ (count ++ [])) r → Emits contents a b (header Second n) r
header_written contents a b n four count r first is written = subst (λ t. Emits contents a b t r) (ap (λ l. l ++ (count ++ [])) first ∙ ap (λ l. magic Second ++ l) (append-nil count ∙ is)) written

spelled_from_header : (keys : List ℕ) → header Second (length keys) ++ spelled_keys keys ≡ spelling Second keys
spelled_from_header keys = append_assoc (magic Second) (eight_bytes (length keys)) (spelled_keys keys)

pub file_written : {X E V : Type 0} {contents : V → Option (List ℕ)} (a b c : Counted V) (keys : List ℕ) (r : Result X E) → Emitted contents a b (header Second (length keys)) → Emits contents b c (spelled_keys keys) r → Emits contents a c (spelling Second keys) r
file_written {contents = contents} a b c keys r head rest =
    subst (λ t. Emits contents a c t r) (spelled_from_header keys) (emitted_then a b c (header Second (length keys)) (spelled_keys keys) r head rest)

pub file_stops : {V : Type 0} {contents : V → Option (List ℕ)} (a b : Counted V) (keys : List ℕ) → EmittedFront contents a b (header Second (length keys)) → EmittedFront contents a b (spelling Second keys)
file_stops {contents = contents} a b keys head =
    subst (EmittedFront contents a b) (spelled_from_header keys) (emitted_longer a b (header Second (length keys)) (spelled_keys keys) head)

pub key_stops : {V : Type 0} {contents : V → Option (List ℕ)} (a b c : Counted V) (keys : List ℕ) (i : ℕ) (key : List ℕ) → i < length keys → key ≡ eight_bytes (get_or keys i 0) → Emitted contents a b (spelled_keys (take i keys)) → EmittedFront contents b c key → EmittedFront contents a c (spelled_keys keys)
key_stops {contents = contents} a b c keys i key inside is before front =
    emitting_stops a b c (spelled_keys (take i keys)) (eight_bytes (get_or keys i 0)) (spelled_keys (drop (suc i) keys)) (spelled_keys keys) (split_at_place eight_bytes keys i 0 inside) before (subst (EmittedFront contents b c) is front)

-- a number in a buffer that has room for just that
pub eight_written : (n : ℕ) (old new : List ℕ) → length old ≡ 8 → new ≡ big_bytes 8 n ++ drop 8 old → new ≡ eight_bytes n
eight_written n old new many is = is ∙ ap (λ l. big_bytes 8 n ++ l) (drop_all 8 old (omega (arith, many))) ∙ append-nil (big_bytes 8 n)
