-- What is still to come of a stream of keys.
use Rattle.std.proofs.Common.{◌≡◌, ◌≢◌, ◌∙◌, refl, sym, ap, subst, ℕ, zero, suc, ◌+◌, ◌-◌, ◌<◌, min, List, [], ◌++◌, length, take, Option, Some, None, Result, Ok, Err, IfOk, arith}
use Rattle.std.specs.Prelude.{option_map}
use Rattle.std.proofs.lemmas.Bool.{ne_eqb}
use Rattle.rh_key_files.specs.declared.version.Version.{Version}
use Rattle.rh_key_files.specs.declared.fault.KeyFault.{KeyFault}
use Rattle.rh_key_files.specs.declared.fault.KeyFault.TheVariants.{Long}
use Rattle.rh_key_files.specs.declared.stream.State.{State}
use Rattle.rh_key_files.specs.declared.stream.State.TheVariants.{Open, Ended, Failed}
use Rattle.rh_key_files.specs.declared.header.Header.{Header}
use Rattle.rh_bytes.specs.Input.{◌>>=◌, end_at, many_at}
use Rattle.rh_key_files.specs.Reading.{KeysFail, ReadsKeys, count_in_header, front_of, header_at, keys_at, batch_at, after_header, keys_ended, file_keys, is_silent, key_at}
use Rattle.rh_key_files.specs.Source.{Gives, ComesFrom, FaultComes, HasCount, keys_alone, keys_of_file, keys_then}
use Rattle.rh_key_files.specs.Stream.{answer_again, coming_in, keys_to_end, state_after}
use Rattle.rh_bytes.proofs.Reading.{Fails-so, Fails-then, with_front}
use Rattle.rh_key_files.proofs.Next.{none_left, some_left}
use Rattle.rh_bytes.proofs.Many.{many_at-add, and_next}
use Rattle.rh_bytes.proofs.Parsed.{then_ok, same_value}
use Rattle.rh_key_files.proofs.Grammar.{keys_read}

abbrev Read : Type 0
Read = Result (List ℕ × List ℕ) KeyFault

-- ---- faults

fails_itself : (e : KeyFault) → KeysFail {X = List ℕ} e (Err e)
fails_itself e = Fails-so is_silent e (Err e) refl

keys_fail : (e : KeyFault) (r : Read) → KeysFail e r → KeysFail e (keys_alone r)
keys_fail e r h = Fails-then is_silent e r (λ keys. Ok keys.0) h

-- ---- the keys of a batch, and then the others

in_two : (version : Version) (index left many : ℕ) (bytes : List ℕ) → many + (left - many) ≡ left → keys_at version index left bytes ≡ (keys_at version index many bytes >>= and_next (key_at version) (index + many) (left - many))
in_two version index left many bytes whole =
    ap (λ n. keys_at version index n bytes) (sym whole) ∙ many_at-add (key_at version) index many (left - many) bytes

end_last : (front keys : List ℕ) (r : Read) → keys_alone (r >>= (λ end. Ok (front ++ keys, end.1))) ≡ keys_then front (keys_alone (r >>= (λ end. Ok (keys, end.1))))
end_last front keys (Ok p) = refl
end_last front keys (Err e) = refl

front_first : (front : List ℕ) (r : Read) → keys_alone ((r >>= with_front front) >>= keys_ended) ≡ keys_then front (keys_alone (r >>= keys_ended))
front_first front (Ok p) = end_last front p.0 (end_at Long p.1)
front_first front (Err e) = refl

batch_fault : (version : Version) (index left room : ℕ) (bytes : List ℕ) (e : KeyFault) → KeysFail e (batch_at version index left room bytes) → KeysFail e (keys_to_end version index left bytes)
unfolding many_at
batch_fault version index zero room bytes e h =
    keys_fail e (end_at Long bytes >>= (λ end. Ok ([], end.1))) (Fails-then is_silent e (end_at Long bytes) (λ end. Ok ([], end.1)) (subst (KeysFail e) (none_left version index 0 room bytes refl) h))
batch_fault version index (suc left) room bytes e h =
    let many : ℕ = min room (suc left) in
    let first : Read = keys_at version index many bytes in
    let both : List ℕ × List ℕ → Read = and_next (key_at version) (index + many) (suc left - many) in
    let fails : KeysFail e first = subst (KeysFail e) (some_left version index (suc left) room many bytes (omega arith) refl) h in
    let whole : many + (suc left - many) ≡ suc left = omega arith in
    subst (λ r. KeysFail e (keys_alone (r >>= keys_ended))) (sym (in_two version index (suc left) many bytes whole))
    (keys_fail e ((first >>= both) >>= keys_ended) (Fails-then is_silent e (first >>= both) keys_ended (Fails-then is_silent e first both fails)))

no_batch : (version : Version) (index left room : ℕ) (bytes keys rest : List ℕ) → left ≡ 0 → batch_at version index left room bytes ≡ Ok (keys, rest) → keys_to_end version index left bytes ≡ Ok []
unfolding many_at
no_batch version index left room bytes keys rest none h =
    let end : end_at Long bytes ≡ Ok (keys, rest) = sym (none_left version index left room bytes none) ∙ h in
    ap (λ n. keys_to_end version index n bytes) none ∙ ap (λ (r : Read). keys_alone (r >>= (λ end. Ok ([], end.1)))) end

one_batch : (version : Version) (index left room many : ℕ) (bytes keys rest : List ℕ) → 0 < left → many ≡ min room left → batch_at version index left room bytes ≡ Ok (keys, rest) → keys_to_end version index left bytes ≡ keys_then keys (keys_to_end version (index + many) (left - many) rest)
one_batch version index left room many bytes keys rest some is h =
    let first : keys_at version index many bytes ≡ Ok (keys, rest) = sym (some_left version index left room many bytes some is) ∙ h in
    let whole : many + (left - many) ≡ left = omega (arith, is) in
    ap (λ (r : Read). keys_alone (r >>= keys_ended)) (in_two version index left many bytes whole ∙ ap (λ (r : Read). r >>= and_next (key_at version) (index + many) (left - many)) first)
    ∙ front_first keys (keys_at version (index + many) (left - many) rest)

-- ---- a stream

still_open : (left n : ℕ) → 0 < left → state_after left (Ok n) ≡ Open
still_open left n some = rw (ne_eqb left 0 (λ z. omega (arith, z, some))) refl

pub gives : (before now : State) (version : Version) (index left room : ℕ) (a b : Option (List ℕ)) (later : List ℕ → Result (List ℕ) KeyFault) (batch : List ℕ) (r : Result ℕ KeyFault)
    → 0 < room
    → (before ≡ Open → ReadsKeys a b (batch_at version index left room) (front_of batch) r)
    → (before ≡ Open → IfOk r (λ n. n ≡ min room left))
    → (before ≡ Open → now ≡ state_after left r)
    → (before ≢ Open → r ≡ answer_again before)
    → ((n : ℕ) → before ≡ Open → r ≡ Ok n → later ≡ keys_to_end version (index + n) (left - n))
    → Gives (coming_in before (option_map (keys_to_end version index left) a)) (coming_in now (option_map later b)) batch r
gives Ended now version index left room a b later batch r some reads many goes_on again then =
    subst (Gives (Some (Ok [])) (coming_in now (option_map later b)) batch) (sym (again (λ e. cc))) refl
gives (Failed e) now version index left room a b later batch r some reads many goes_on again then =
    subst (Gives (Some (Err e)) (coming_in now (option_map later b)) batch) (sym (again (λ e. cc))) (fails_itself e)
gives Open now version index left room None b later batch r some reads many goes_on again then = tt
gives Open now version index left room (Some x) b later batch (Err e) some reads many goes_on again then =
    batch_fault version index left room x e (reads refl)
gives Open now version index left room (Some x) None later batch (Ok m) some reads many goes_on again then = absurd (reads refl)
gives Open now version index left room (Some x) (Some y) later batch (Ok zero) some reads many goes_on again then =
    let none : left ≡ 0 = omega (arith, some, many refl) in
    no_batch version index left room x [] y none (reads refl)
gives Open now version index left room (Some x) (Some y) later batch (Ok (suc m)) some reads many goes_on again then =
    let left_some : 0 < left = omega (arith, many refl) in
    let goes : now ≡ Open = goes_on refl ∙ still_open left (suc m) left_some in
    let coming : coming_in now (option_map later (Some y)) ≡ Some (keys_to_end version (index + suc m) (left - suc m) y) =
    ap (λ s. coming_in s (Some (later y))) goes ∙ ap (λ (f : List ℕ → Result (List ℕ) KeyFault). Some (f y)) (then (suc m) refl refl) in
    subst (λ c. Gives (Some (keys_to_end version index left x)) c batch (Ok (suc m))) (sym coming)
    (one_batch version index left room (suc m) x (take (suc m) batch) y left_some (many refl) (reads refl))

pub moved_on : (header later : Header) (taken now : ℕ) (r : Result ℕ KeyFault) → later ≡ header → IfOk r (λ n. now ≡ taken + n) → (n : ℕ) → r ≡ Ok n → keys_to_end later.version now (later.count - now) ≡ keys_to_end header.version (taken + n) (header.count - taken - n)
moved_on header later taken now r same taken_too n is =
    let on : now ≡ taken + n = subst (λ r. IfOk r (λ n. now ≡ taken + n)) is taken_too in
    let left : header.count - (taken + n) ≡ header.count - taken - n = omega arith in
    ap (λ (h : Header). keys_to_end h.version now (h.count - now)) same ∙ ap (λ i. keys_to_end header.version i (header.count - i)) on ∙ ap (keys_to_end header.version (taken + n)) left

-- ---- at the beginning

pub comes : (header : Header) (a b : Option (List ℕ)) → ReadsKeys a b header_at (λ (h : Header). h) (Ok header) → ComesFrom a (option_map (keys_to_end header.version 0 header.count) b)
unfolding file_keys
comes header None b h = tt
comes header (Some x) None h = absurd h
comes header (Some x) (Some y) h = rw h refl

pub does_not_come : (a : Option (List ℕ)) (e : KeyFault) → ReadsKeys a None header_at (λ (h : Header). h) (Err e) → FaultComes (option_map keys_of_file a) e
unfolding file_keys
does_not_come None e h = tt
does_not_come (Some x) e h = keys_fail e (header_at x >>= after_header) (Fails-then is_silent e (header_at x) after_header h)

keys_told : (r : Read) (keys : List ℕ) → keys_alone r ≡ Ok keys → (p : List ℕ × List ℕ) × (r ≡ Ok p) × (p.0 ≡ keys)
keys_told (Ok p) keys h = (p, refl, ap (λ (r : Result (List ℕ) KeyFault). elim r [ Ok k ↦ k | Err e ↦ p.0 ]) h)
keys_told (Err e) keys h = absurd cc

pub counts : (header : Header) (a b : Option (List ℕ)) → ReadsKeys a b header_at (λ (h : Header). h) (Ok header) → HasCount a header.count
unfolding file_keys
counts header None b h = tt
counts header (Some x) None h = absurd h
counts header (Some x) (Some y) h = λ keys is.
    let here : keys_alone (keys_at header.version 0 header.count y >>= keys_ended) ≡ Ok keys = rw h at is in
    let p = keys_told (keys_at header.version 0 header.count y >>= keys_ended) keys here in
    let t = then_ok (keys_at header.version 0 header.count y) keys_ended p.0 p.1 in
    let u = then_ok (end_at Long t.0.1) (λ end. Ok (t.0.0, end.1)) p.0 t.2 in
    let same : t.0.0 ≡ keys = same_value (t.0.0, u.0.1) p.0 u.2 ∙ p.2 in
    ap length (sym same) ∙ (keys_read header.version 0 header.count y t.0 t.1).many

pub ruleset at_the_beginning = (comes, counts, does_not_come)

header_counts : (bytes keys : List ℕ) (read : Result (Header × List ℕ) KeyFault) → header_at bytes ≡ read → keys_of_file bytes ≡ Ok keys → (read >>= (λ header. Ok header.0.count)) ≡ Ok (length keys)
unfolding file_keys
header_counts bytes keys (Ok header) is all = ap (λ (n : ℕ). Ok n) (sym (counts header.0 (Some bytes) (Some header.1) is keys all))
header_counts bytes keys (Err fault) is all = let none : Err fault ≡ Ok keys = rw is at all in absurd cc

-- of a key file, the header says how many keys there are
pub counts_its_keys : (bytes keys : List ℕ) → keys_of_file bytes ≡ Ok keys → count_in_header bytes ≡ Ok (length keys)
counts_its_keys bytes keys all = header_counts bytes keys (header_at bytes) refl all
