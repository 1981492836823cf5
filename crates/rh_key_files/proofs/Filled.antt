-- A part of a key file: the keys that its bytes spell, and their test.
use Rattle.std.proofs.Common.{◌≡◌, ◌∙◌, refl, sym, ap, ℕ, zero, suc, ◌+◌, ◌-◌, ◌*◌, ◌/◌, ◌<◌, ◌≤◌, ◌^◌, List, [], ◌∷◌, ◌++◌, length, take, drop, Option, Some, None, Result, Ok, Err, inl, inr, arith, leb, append_assoc, length-append, length-take, length-drop, take-append-drop}
use Rattle.std.specs.Prelude.{All}
use Rattle.std.specs.List.{position_from}
use Rattle.std.proofs.lemmas.Bool.{cases_Bool, and_parts, leb-true}
use Rattle.std.proofs.lemmas.List.{take_all, take-take}
use Rattle.std.proofs.Math.Seq.{take-nil, take-append-add}
use Rattle.std.proofs.lemmas.List.Elements.{All-nil, All-cons, All-head, All-tail, All-take}
use Rattle.std.specs.Io.KnownBytes.{Consumes, IsAtEnd}
use Rattle.rh_layout.specs.Key.{IsKey}
use Rattle.rh_layout.specs.declared.limits.TheConstants.{MAX_KEY}
use Rattle.rh_key_files.specs.declared.version.Version.{Version}
use Rattle.rh_key_files.specs.declared.fault.KeyFault.{KeyFault}
use Rattle.rh_key_files.specs.declared.fault.KeyFault.TheVariants.{Short, BadKey}
use Rattle.rh_bytes.specs.Input.{eight_bytes, many_at}
use Rattle.rh_key_files.specs.KeyFile.{least_key, spelled_keys}
use Rattle.rh_bytes.specs.Input.{◌>>=◌, always, bytes_at, number_at, with_head}
use Rattle.rh_key_files.specs.Reading.{ReadsKeys, is_key_in, is_refused, key_at, keys_at}
use Rattle.rh_bytes.proofs.Spelled.{begins_not}
use Rattle.rh_bytes.proofs.Reading.{with_front}
use Rattle.rh_bytes.proofs.Many.{and_next, many_at-add}
use Rattle.rh_key_files.proofs.Grammar.{key_spelled}

-- ---- the test

pub none_refused : (version : Version) (index : ℕ) (keys : List ℕ) → position_from (is_refused version) index keys ≡ None → All IsKey keys
none_refused version index [] h = All-nil IsKey
none_refused version index (k ∷ keys) h =
    elim (cases_Bool (is_key_in version k)) [
      | inl fits ↦
          let parts = and_parts (leb (least_key version) k) (leb k MAX_KEY) fits in
          All-cons IsKey k keys (leb-true _ _ parts.1) (none_refused version (index + 1) keys (rw fits at h))
      | inr other ↦ let got : Some index ≡ None = rw other at h in absurd cc
    ]

-- ---- keys that are spelled, and what comes after them

-- the keys, where none is refused
abbrev unless_refused : List ℕ → List ℕ → Option ℕ → Result (List ℕ × List ℕ) KeyFault
unless_refused keys rest None = Ok (keys, rest)
unless_refused keys rest (Some bad) = Err (BadKey bad)

one_more : (k : ℕ) (keys rest : List ℕ) (r : Option ℕ) → (unless_refused keys rest r >>= with_head k) ≡ unless_refused (k ∷ keys) rest r
one_more k keys rest None = refl
one_more k keys rest (Some bad) = refl

-- in eight bytes
abbrev FitsEight : ℕ → Type 0
FitsEight n = n < 2 ^ 64

keys_spelled : (version : Version) (index : ℕ) (keys rest : List ℕ) → All FitsEight keys → keys_at version index (length keys) (spelled_keys keys ++ rest) ≡ unless_refused keys rest (position_from (is_refused version) index keys)
unfolding many_at
keys_spelled version index [] rest small = refl
keys_spelled version index (k ∷ keys) rest small =
    let apart : spelled_keys (k ∷ keys) ++ rest ≡ eight_bytes k ++ (spelled_keys keys ++ rest) = append_assoc (eight_bytes k) (spelled_keys keys) rest in
    let others = keys_spelled version (index + 1) keys rest (All-tail FitsEight k keys small) in
    ap (keys_at version index (suc (length keys))) apart
    ∙ ap (λ r. r >>= (λ first. keys_at version (index + 1) (length keys) first.1 >>= with_head first.0)) (key_spelled version index k (spelled_keys keys ++ rest) (All-head FitsEight k keys small))
    ∙ elim (cases_Bool (is_key_in version k)) [
      | inl fits ↦ rw fits (ap (λ (r : Result (List ℕ × List ℕ) KeyFault). r >>= with_head k) others ∙ one_more k keys rest (position_from (is_refused version) (index + 1) keys))
      | inr other ↦ rw other refl
    ]

-- the first numbers of a text of numbers
take-spelled : (n : ℕ) (keys : List ℕ) → take (8 * n) (spelled_keys keys) ≡ spelled_keys (take n keys)
take-spelled zero keys = refl
take-spelled (suc n) [] = take-nil (8 * suc n)
take-spelled (suc n) (k ∷ keys) =
    let more : 8 * suc n ≡ 8 + 8 * n = omega arith in
    ap (λ m. take m (spelled_keys (k ∷ keys))) more ∙ take-append-add (eight_bytes k) (spelled_keys keys) (8 * n) ∙ ap (λ l. eight_bytes k ++ l) (take-spelled n keys)

-- ---- a part that was filled

-- the first n bytes of a part were read, and it was decoded to keys, of which these are whole
pub record IsFilled (part keys : List ℕ) (n : ℕ) (front : List ℕ) : Type 0 where
  pub spelled : spelled_keys keys ≡ part
  pub many : length part ≡ 8 * length keys
  pub within : n ≤ length part
  pub first : front ≡ take (n / 8) keys
  pub small : All FitsEight keys

pub is_filled : (part keys : List ℕ) (n : ℕ) → spelled_keys keys ≡ part → length part ≡ 8 * length keys → n ≤ length part → All FitsEight keys → IsFilled part keys n (take (n / 8) keys)
is_filled part keys n spelled many within small = record { spelled = spelled; many = many; within = within; first = refl; small = small }

-- the bytes of a key that is not whole
abbrev half_key : (part : List ℕ) (n : ℕ) → List ℕ
half_key part n = drop (8 * (n / 8)) (take n part)

filled_bytes : (part keys : List ℕ) (n : ℕ) (front : List ℕ) → IsFilled part keys n front → take n part ≡ spelled_keys front ++ half_key part n
filled_bytes part keys n front f =
    let whole : 8 * (n / 8) ≤ n = omega arith in
    let begin : take (8 * (n / 8)) (take n part) ≡ spelled_keys front = take-take (8 * (n / 8)) n part whole ∙ ap (take (8 * (n / 8))) (sym f.spelled) ∙ take-spelled (n / 8) keys ∙ ap spelled_keys (sym f.first) in
    sym (take-append-drop (8 * (n / 8)) (take n part)) ∙ ap (λ l. l ++ half_key part n) begin

-- what the whole keys of the part are read to, and then the others
filled_keys : (version : Version) (index : ℕ) (part keys : List ℕ) (n : ℕ) (front bytes rest : List ℕ) → IsFilled part keys n front → bytes ≡ take n part ++ rest
    → keys_at version index (length keys) bytes ≡ (unless_refused front (half_key part n ++ rest) (position_from (is_refused version) index front) >>= and_next (key_at version) (index + length front) (length keys - length front))
filled_keys version index part keys n front bytes rest f is =
    let few : length front ≤ length keys = omega (arith, ap length f.first, length-take (n / 8) keys) in
    let all : length front + (length keys - length front) ≡ length keys = omega arith in
    let apart : bytes ≡ spelled_keys front ++ (half_key part n ++ rest) = is ∙ ap (λ l. l ++ rest) (filled_bytes part keys n front f) ∙ append_assoc (spelled_keys front) (half_key part n) rest in
    let small : All FitsEight front = rw f.first (All-take FitsEight (n / 8) keys f.small) in
    ap (λ m. keys_at version index m bytes) (sym all) ∙ many_at-add (key_at version) index (length front) (length keys - length front) bytes
    ∙ ap (λ (r : Result (List ℕ × List ℕ) KeyFault). r >>= and_next (key_at version) (index + length front) (length keys - length front)) (ap (keys_at version index (length front)) apart ∙ keys_spelled version index front (half_key part n ++ rest) small)

pub part_refused : {X : Type 0} (version : Version) (index : ℕ) (a b : Option (List ℕ)) (part keys : List ℕ) (n : ℕ) (front : List ℕ) (bad : ℕ) (v : X → List ℕ) → IsFilled part keys n front → Some bad ≡ position_from (is_refused version) index front → Consumes a b (take n part) → ReadsKeys a b (keys_at version index (length keys)) v (Err (BadKey bad))
part_refused version index None b part keys n front bad v f refused h = tt
part_refused version index (Some x) None part keys n front bad v f refused h = absurd h
part_refused version index (Some x) (Some y) part keys n front bad v f refused h = rw (filled_keys version index part keys n front x y f h, sym refused) refl

-- too few bytes for a key
pub no_key : (version : Version) (index n : ℕ) (bytes : List ℕ) → 0 < n → length bytes < 8 → keys_at version index n bytes ≡ Err Short
unfolding many_at key_at number_at bytes_at
no_key version index zero bytes some few = absurd (omega (arith, some))
no_key version index (suc n) bytes some few = rw (begins_not 8 bytes few) refl

pub part_short : {X : Type 0} (version : Version) (index : ℕ) (a b : Option (List ℕ)) (part keys : List ℕ) (n : ℕ) (front : List ℕ) (v : X → List ℕ) → IsFilled part keys n front → None ≡ position_from (is_refused version) index front → n < length part → Consumes a b (take n part) → IsAtEnd b → ReadsKeys a b (keys_at version index (length keys)) v (Err Short)
part_short version index None b part keys n front v f fine lt h end = tt
part_short version index (Some x) None part keys n front v f fine lt h end = absurd h
part_short version index (Some x) (Some y) part keys n front v f fine lt h end =
    let tail : List ℕ = half_key part n ++ y in
    let few : length tail < 8 = omega (arith, ap length end, length-append (half_key part n) y, length-drop (8 * (n / 8)) (take n part), length-take n part) in
    let left : 0 < length keys - length front = omega (arith, ap length f.first, length-take (n / 8) keys, f.many) in
    rw (filled_keys version index part keys n front x y f h, sym fine) (ap (λ (r : Result (List ℕ × List ℕ) KeyFault). r >>= with_front front) (no_key version (index + length front) (length keys - length front) tail left few))

pub part_full : (version : Version) (index : ℕ) (a b : Option (List ℕ)) (part keys : List ℕ) (n : ℕ) (front : List ℕ) → IsFilled part keys n front → None ≡ position_from (is_refused version) index front → length part ≤ n → Consumes a b (take n part) → ReadsKeys a b (keys_at version index (length keys)) (always {X = Unit {0}} keys) (Ok tt)
part_full version index None b part keys n front f fine all h = tt
part_full version index (Some x) None part keys n front f fine all h = absurd h
part_full version index (Some x) (Some y) part keys n front f fine all h =
    let every : front ≡ keys = f.first ∙ take_all (n / 8) keys (omega (arith, f.many)) in
    let whole : x ≡ spelled_keys keys ++ y = h ∙ ap (λ l. l ++ y) (take_all n part all ∙ sym f.spelled) in
    let none : None ≡ position_from (is_refused version) index keys = rw every at fine in
    rw (whole, keys_spelled version index keys y f.small, sym none) refl
