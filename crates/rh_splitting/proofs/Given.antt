-- What each part was given of a list, key after key and list after list.
use Rattle.std.proofs.Common.{◌≡◌, ◌≢◌, ℕ, zero, suc, ◌+◌, ◌<◌, List, [], ◌∷◌, ◌++◌, length, take, drop, get_or, Option, Some, inl, inr, refl, sym, ap, subst, ◌∙◌, arith, append_assoc, append-nil, length-append, length-set}
use Rattle.std.specs.Prelude.{All, nat_eq, slice_get, slice_set}
use Rattle.std.specs.Io.KnownBytes.{Appends}
use Rattle.std.proofs.KnownBytes.{Appends-nil, Appends-trans}
use Rattle.std.proofs.lemmas.Bool.{cases_Bool, eqb-true, eqb-false, eq-eqb, ne_eqb}
use Rattle.std.proofs.lemmas.Grind.{flat_map-append}
use Rattle.std.proofs.lemmas.List.Elements.{All-cons, All-head, All-nil, All-tail, filter-append}
use Rattle.std.proofs.lemmas.List.{set-get_or}
use Rattle.std.proofs.lemmas.Option.{get_or_from_slice_get, slice_get_within, slice_get-get_or}
use Rattle.rh_bytes.specs.Counting.{Rose, failures_of, inner_of}
use Rattle.rh_layout.specs.Key.{IsKey}
use Rattle.rh_bytes.specs.Input.{eight_bytes}
use Rattle.rh_key_files.specs.KeyFile.{IsKeyIn, spelled_keys}
use Rattle.rh_key_files.specs.declared.version.Version.TheVariants.{Second}
use Rattle.rh_parts.specs.Parts.{in_part, part_of, stands_in}
use Rattle.rh_splitting.specs.declared.part.Part.{Part}
use Rattle.rh_splitting.specs.Parts.{EachGot, EachGotButOne, Got, GotButOne, IsFull, limit_of, part_count, writer_of}

-- ---- one part

got_none : {W : Type 0} (contents : W → Option (List ℕ)) (part : Part W) → Got contents part part []
got_none contents part = record { written = Appends-nil (contents (inner_of (writer_of part))); counted = omega arith; fine = refl; same_limit = refl }

got_both : {W : Type 0} (contents : W → Option (List ℕ)) (a b c : Part W) (xs ys : List ℕ) → Got contents a b xs → Got contents b c ys → Got contents a c (xs ++ ys)
got_both contents a b c xs ys first then = record {
  written = subst (Appends (contents (inner_of (writer_of a))) (contents (inner_of (writer_of c)))) (sym (flat_map-append eight_bytes xs ys)) (Appends-trans _ _ _ (spelled_keys xs) (spelled_keys ys) first.written then.written);
  counted = omega (arith, first.counted, then.counted, length-append xs ys);
  fine = then.fine ∙ first.fine;
  same_limit = then.same_limit ∙ first.same_limit;
}

-- ---- all parts

same_some : {X : Type 0} (x y : X) → Some x ≡ Some y → x ≡ y
same_some x y h = cc

pub none_given : {W : Type 0} (contents : W → Option (List ℕ)) (parts : List (Part W)) → EachGot contents parts parts []
none_given contents parts = record {
  many = refl;
  each = λ part before after is then. subst (λ p. Got contents before p []) (same_some before after (sym is ∙ then)) (got_none contents before);
}

pub at_place : {X : Type 0} (xs : List X) (i : ℕ) → i < length xs → (x : X) × (slice_get xs i ≡ Some x)
at_place [] i inside = absurd (omega (arith, inside))
at_place (x ∷ xs) i inside = (_, slice_get-get_or (x ∷ xs) i x inside)

pub both_given : {W : Type 0} (contents : W → Option (List ℕ)) (a b c : List (Part W)) (xs ys : List ℕ) → EachGot contents a b xs → EachGot contents b c ys → EachGot contents a c (xs ++ ys)
both_given contents a b c xs ys first then = record {
  many = then.many ∙ first.many;
  each = λ part before after is later.
      let mid = at_place b part (omega (arith, slice_get_within a part before is, first.many)) in
      subst (Got contents before after) (sym (filter-append (stands_in (length a) part) xs ys))
      (got_both contents before mid.0 after (in_part (length a) part xs) (in_part (length a) part ys) (first.each part before mid.0 is mid.1)
      (subst (λ n. Got contents mid.0 after (in_part n part ys)) first.many (then.each part mid.0 after mid.1 later)));
}

-- a part at another place is as it was
set_elsewhere : {X : Type 0} (xs : List X) (i j : ℕ) (x : X) → i ≢ j → slice_get (slice_set xs i x) j ≡ slice_get xs j
set_elsewhere [] i j x other = refl
set_elsewhere (y ∷ xs) zero zero x other = absurd (other refl)
set_elsewhere (y ∷ xs) zero (suc j) x other = refl
set_elsewhere (y ∷ xs) (suc i) zero x other = refl
set_elsewhere (y ∷ xs) (suc i) (suc j) x other = set_elsewhere xs i j x (λ is. other (ap suc is))

pub set_here : {X : Type 0} (xs : List X) (i : ℕ) (x : X) → i < length xs → slice_get (slice_set xs i x) i ≡ Some x
set_here [] i x inside = absurd (omega (arith, inside))
set_here (y ∷ xs) zero x inside = refl
set_here (y ∷ xs) (suc i) x inside = set_here xs i x (omega (arith, inside))

one_key : (parts part key : ℕ) → part_of parts key ≡ part → in_part parts part (key ∷ []) ≡ key ∷ []
one_key parts part key is = rw (eq-eqb (part_of parts key) part is) refl

no_key : (parts part key : ℕ) → part_of parts key ≢ part → in_part parts part (key ∷ []) ≡ []
no_key parts part key not = rw (ne_eqb (part_of parts key) part not) refl

-- one key, given to its part
pub one_given : {W : Type 0} (contents : W → Option (List ℕ)) (parts : List (Part W)) (place key : ℕ) (old new : Part W) → slice_get parts place ≡ Some old → part_of (length parts) key ≡ place → Got contents old new (key ∷ [])
    → EachGot contents parts (slice_set parts place new) (key ∷ [])
one_given contents parts place key old new there is got = record {
  many = length-set parts place new;
  each = λ part before after was now.
      elim (cases_Bool (nat_eq place part)) [
        | inl t ↦
            let here : place ≡ part = eqb-true place part t in
            let first : before ≡ old = same_some before old (sym was ∙ ap (slice_get parts) (sym here) ∙ there) in
            let last : after ≡ new = same_some after new (sym now ∙ ap (slice_get (slice_set parts place new)) (sym here) ∙ set_here parts place new (slice_get_within parts place old there)) in
            subst (Got contents before after) (sym (one_key (length parts) part key (is ∙ here))) (subst (λ p. Got contents before p (key ∷ [])) (sym last) (subst (λ p. Got contents p new (key ∷ [])) (sym first) got))
        | inr f ↦
            let other : place ≢ part = eqb-false place part f in
            let same : before ≡ after = same_some before after (sym was ∙ sym (set_elsewhere parts place part new other) ∙ now) in
            subst (Got contents before after) (sym (no_key (length parts) part key (λ at. other (sym is ∙ at)))) (subst (λ p. Got contents before p []) same (got_none contents before))
      ];
}

-- ---- a key that is not taken

set_same : {X : Type 0} (xs : List X) (i : ℕ) (x : X) → slice_get xs i ≡ Some x → slice_set xs i x ≡ xs
set_same xs i x is = ap (slice_set xs i) (sym (get_or_from_slice_get xs i x x is)) ∙ set-get_or xs i x

-- the part is as it was
pub still_given : {W : Type 0} (contents : W → Option (List ℕ)) (first parts : List (Part W)) (place : ℕ) (old new : Part W) (keys : List ℕ) → EachGot contents first parts keys → slice_get parts place ≡ Some old → new ≡ old
    → EachGot contents first (slice_set parts place new) keys
still_given contents first parts place old new keys given there same =
    subst (λ ps. EachGot contents first ps keys) (sym (ap (slice_set parts place) same ∙ set_same parts place old there)) given

pub is_full : {W : Type 0} (parts : List (Part W)) (place : ℕ) (old new : Part W) → slice_get parts place ≡ Some old → new ≡ old → part_count old ≡ limit_of old → IsFull (slice_set parts place new) place
is_full parts place old new there same full = (new, set_here parts place new (slice_get_within parts place old there), ap part_count same ∙ full ∙ ap limit_of (sym same))

-- a write failed, after these keys
got_then : {W : Type 0} (contents : W → Option (List ℕ)) (a b c : Part W) (xs ys : List ℕ) (key : ℕ) → Got contents a b xs → GotButOne contents b c ys key → GotButOne contents a c (xs ++ ys) key
got_then contents a b c xs ys key first then =
    let cut = take then.bytes (spelled_keys (key ∷ [])) in
    let joined : spelled_keys xs ++ (spelled_keys ys ++ cut) ≡ spelled_keys (xs ++ ys) ++ cut =
    sym (append_assoc (spelled_keys xs) (spelled_keys ys) cut) ∙ ap (λ (l : List ℕ). l ++ cut) (sym (flat_map-append eight_bytes xs ys)) in
    record {
      bytes = then.bytes;
      written = subst (Appends (contents (inner_of (writer_of a))) (contents (inner_of (writer_of c)))) joined (Appends-trans _ _ _ (spelled_keys xs) (spelled_keys ys ++ cut) first.written then.written);
      counted = omega (arith, first.counted, then.counted, length-append xs ys);
      failed = subst (λ n. Rose n (failures_of (writer_of c))) first.fine then.failed;
      same_limit = then.same_limit ∙ first.same_limit;
    }

pub failed_after : {W : Type 0} (contents : W → Option (List ℕ)) (a b c : List (Part W)) (place key : ℕ) (xs ys : List ℕ) → EachGot contents a b xs → EachGotButOne contents b c ys key place → EachGotButOne contents a c (xs ++ ys) key place
failed_after contents a b c place key xs ys first then = record {
  many = then.many ∙ first.many;
  others = λ other before after not is later.
      let mid = at_place b other (omega (arith, slice_get_within a other before is, first.many)) in
      subst (Got contents before after) (sym (filter-append (stands_in (length a) other) xs ys))
      (got_both contents before mid.0 after (in_part (length a) other xs) (in_part (length a) other ys) (first.each other before mid.0 is mid.1)
      (subst (λ n. Got contents mid.0 after (in_part n other ys)) first.many (then.others other mid.0 after not mid.1 later)));
  failed =
      let mid = then.failed.0 in
      let last = then.failed.1 in
      let start = at_place a place (omega (arith, slice_get_within b place mid then.failed.2, first.many)) in (
        start.0,
        last,
        start.1,
        then.failed.3,
        subst (λ l. GotButOne contents start.0 last l key) (sym (filter-append (stands_in (length a) place) xs ys))
            (got_then contents start.0 mid last (in_part (length a) place xs) (in_part (length a) place ys) key (first.each place start.0 mid start.1 then.failed.2)
            (subst (λ n. GotButOne contents mid last (in_part n place ys) key) first.many then.failed.4)),
      );
}

pub failed_here : {W : Type 0} (contents : W → Option (List ℕ)) (parts : List (Part W)) (place key : ℕ) (old new : Part W) → slice_get parts place ≡ Some old → GotButOne contents old new [] key
    → EachGotButOne contents parts (slice_set parts place new) [] key place
failed_here contents parts place key old new there cut = record {
  many = length-set parts place new;
  others = λ other before after not was now.
      let same : before ≡ after = same_some before after (sym was ∙ sym (set_elsewhere parts place other new (λ is. not (sym is))) ∙ now) in
      subst (λ p. Got contents before p []) same (got_none contents before);
  failed = (old, new, there, set_here parts place new (slice_get_within parts place old there), cut);
}

-- the write of the key behind these failed
pub failed_behind : {W : Type 0} (contents : W → Option (List ℕ)) (a b c : List (Part W)) (place key : ℕ) (keys : List ℕ) → EachGot contents a b keys → EachGotButOne contents b c [] key place → EachGotButOne contents a c keys key place
failed_behind contents a b c place key keys first then = subst (λ l. EachGotButOne contents a c l key place) (append-nil keys) (failed_after contents a b c place key keys [] first then)

-- ---- the place of a key in a list

pub key_at : (keys : List ℕ) (i : ℕ) → i < length keys → keys ≡ take i keys ++ (get_or keys i 0 ∷ drop (suc i) keys)
key_at [] i inside = absurd (omega (arith, inside))
key_at (k ∷ keys) zero inside = refl
key_at (k ∷ keys) (suc i) inside = ap (λ l. k ∷ l) (key_at keys i (omega (arith, inside)))

next_one : (keys : List ℕ) (i : ℕ) → i < length keys → take i keys ++ (get_or keys i 0 ∷ []) ≡ take (suc i) keys
next_one [] i inside = absurd (omega (arith, inside))
next_one (k ∷ keys) zero inside = refl
next_one (k ∷ keys) (suc i) inside = ap (λ l. k ∷ l) (next_one keys i (omega (arith, inside)))

pub one_more : (keys : List ℕ) (i : ℕ) → i < length keys → take i keys ++ (get_or keys i 0 ∷ []) ≡ take (i + 1) keys
one_more keys i inside =
    let next : suc i ≡ i + 1 = omega arith in
    next_one keys i inside ∙ ap (λ n. take n keys) next

-- ---- the keys of a part are keys

pub keys_in_part : (parts part : ℕ) (keys : List ℕ) → All IsKey keys → All (IsKeyIn Second) (in_part parts part keys)
keys_in_part parts part [] are = All-nil (IsKeyIn Second)
keys_in_part parts part (k ∷ keys) are =
    let others = keys_in_part parts part keys (All-tail IsKey k keys are) in
    elim (cases_Bool (stands_in parts part k)) [
      | inl t ↦ rw t (All-cons (IsKeyIn Second) k (in_part parts part keys) (omega arith, All-head IsKey k keys are) others)
      | inr f ↦ rw f others
    ]
