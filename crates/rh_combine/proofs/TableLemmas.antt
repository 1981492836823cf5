-- What the loops over lists make of the sets in a table, and the room that they need.
use Rattle.std.proofs.Common.{◌≡◌, ◌∙◌, ap, sym, refl, ℕ, suc, ◌+◌, ◌^◌, ◌<◌, ◌≤◌, arith, Bool, true, false, List, [], ◌∷◌, ◌++◌, length, take, drop, drop-cons, get_or}
use Rattle.std.specs.Prelude.{map, min, not, ◌&&◌, ◌||◌, ◌==◌}
use Rattle.std.specs.List.{list_any}
use Rattle.std.specs.Ordering.{nat_cmp}
use Rattle.std.specs.FinSet as set
use Rattle.std.specs.FinSet.{contains, contains-empty}
use Rattle.std.proofs.Math.Pow.{pow_mono}
use Rattle.std.proofs.lemmas.Bool.{and_parts, eqb-true, or_left, or_right}
use Rattle.std.proofs.lemmas.List.{length-map, length-take, map-append, take-append-drop, take_more}
use Rattle.std.proofs.lemmas.List.Folds.{list_any-append, list_any_more}
use Rattle.std.proofs.lemmas.List.Sums.{fold_push}
use Rattle.rh_edit.proofs.SetLemmas.{len-from_list}
use Rattle.rh_grow.specs.Growth.{IsCapacity}
use Rattle.rh_layout.specs.Layout.{Keys}
use Rattle.rh_layout.specs.declared.limits.TheConstants.{MIN_BITS}
use Rattle.rh_combine.specs.declared.how.How.{How}
use Rattle.rh_combine.specs.declared.how.How.TheVariants.{Intersect, Union, Subtract, Xor}
use Rattle.rh_combine.specs.Combine.{has, meant, with_list}
use Rattle.rh_combine.specs.Table.{HasAtMost, HasRoom, IsSizedAfter, TakesLater, first_count}
use Rattle.rh_combine.proofs.Meaning.{contains-with_list, either, has_some, listed, out, put, same, stands_is}
use Rattle.rh_combine.proofs.Rising.{IsPart, len-part}

abbrev none_set : Keys
none_set = set.empty

-- ---- a list of no number

or_false : (b : Bool) → (b || false) ≡ b
or_false true = refl
or_false false = refl

and_true : (b : Bool) → (b && true) ≡ b
and_true true = refl
and_true false = refl

and_false : (b : Bool) → (b && false) ≡ false
and_false true = refl
and_false false = refl

xor_false : (b : Bool) → ((b && true) || (false && not b)) ≡ b
xor_false true = refl
xor_false false = refl

pub union_none : (S : Keys) → S ≡ with_list Union S []
union_none S = same _ _ (λ q. sym (contains-with_list Union S [] q ∙ or_false (contains S q)))

pub subtract_none : (S : Keys) → S ≡ with_list Subtract S []
subtract_none S = same _ _ (λ q. sym (contains-with_list Subtract S [] q ∙ and_true (contains S q)))

pub intersect_none : (S : Keys) → none_set ≡ with_list Intersect S []
intersect_none S = same _ _ (λ q. contains-empty nat_cmp q ∙ sym (contains-with_list Intersect S [] q ∙ and_false (contains S q)))

pub xor_none : (S : Keys) → S ≡ with_list Xor S []
xor_none S = same _ _ (λ q. sym (contains-with_list Xor S [] q ∙ xor_false (contains S q)))

union_first : (keys : List ℕ) → with_list Union none_set keys ≡ set.from_list keys
union_first keys = same _ _ (λ q. contains-with_list Union none_set keys q ∙ ap (λ b. b || has keys q) (contains-empty nat_cmp q) ∙ sym (listed keys q))

pub union_at_first : (S : Keys) (keys : List ℕ) → S ≡ none_set → with_list Union S keys ≡ set.from_list keys
union_at_first S keys none = ap (λ (T : Keys). with_list Union T keys) none ∙ union_first keys

-- ---- a number more of the list

module _ (S : Keys) (keys : List ℕ) (i : ℕ) (inside : i < length keys) where
  abbrev k : ℕ
  k = get_or keys i 0

  abbrev so_far : List ℕ
  so_far = take i keys

  more : (q : ℕ) → has (take (i + 1) keys) q ≡ (has so_far q || k == q)
  more q = list_any_more (λ y. y == q) keys i 0 inside

  with_more : (how : How) (q : ℕ) → contains (with_list how S (take (i + 1) keys)) q ≡ either how (contains S q) (has so_far q || k == q)
  with_more how q = contains-with_list how S (take (i + 1) keys) q ∙ ap (either how (contains S q)) (more q)

  added : (c h e : Bool) → (e || (c || h)) ≡ (c || (h || e))
  added true true true = refl
  added true true false = refl
  added true false true = refl
  added true false false = refl
  added false true true = refl
  added false true false = refl
  added false false true = refl
  added false false false = refl

  pub union_more : (T : Keys) → T ≡ with_list Union S so_far → set.insert T k ≡ with_list Union S (take (i + 1) keys)
  union_more T is = ap (λ (U : Keys). set.insert U k) is ∙ same _ _ (λ q.
      put (with_list Union S so_far) k q ∙ ap (λ b. k == q || b) (contains-with_list Union S so_far q)
      ∙ added (contains S q) (has so_far q) (k == q) ∙ sym (with_more Union q))

  taken : (c h e : Bool) → (not e && (c && not h)) ≡ (c && not (h || e))
  taken true true true = refl
  taken true true false = refl
  taken true false true = refl
  taken true false false = refl
  taken false true true = refl
  taken false true false = refl
  taken false false true = refl
  taken false false false = refl

  pub subtract_more : (T : Keys) → T ≡ with_list Subtract S so_far → set.remove T k ≡ with_list Subtract S (take (i + 1) keys)
  subtract_more T is = ap (λ (U : Keys). set.remove U k) is ∙ same _ _ (λ q.
      out (with_list Subtract S so_far) k q ∙ ap (λ b. not (k == q) && b) (contains-with_list Subtract S so_far q)
      ∙ taken (contains S q) (has so_far q) (k == q) ∙ sym (with_more Subtract q))

  found : (c h e : Bool) → (e ≡ true → c ≡ true) → (e || (c && h)) ≡ (c && (h || e))
  found true true true f = refl
  found true true false f = refl
  found true false true f = refl
  found true false false f = refl
  found false h true f = sym (f refl)
  found false h false f = refl

  passed : (c h e : Bool) → (e ≡ true → c ≡ false) → (c && h) ≡ (c && (h || e))
  passed true true e f = refl
  passed true false true f = sym (f refl)
  passed true false false f = refl
  passed false h e f = refl

  -- where the number is k, what is said of k is said of it
  said_of : (c : Bool) → contains S k ≡ c → (q : ℕ) → (k == q) ≡ true → contains S q ≡ c
  said_of c is q e = ap (contains S) (sym (eqb-true k q e)) ∙ is

  pub intersect_more : (T : Keys) → contains S k ≡ true → T ≡ with_list Intersect S so_far → set.insert T k ≡ with_list Intersect S (take (i + 1) keys)
  intersect_more T here is = ap (λ (U : Keys). set.insert U k) is ∙ same _ _ (λ q.
      put (with_list Intersect S so_far) k q ∙ ap (λ b. k == q || b) (contains-with_list Intersect S so_far q)
      ∙ found (contains S q) (has so_far q) (k == q) (said_of true here q) ∙ sym (with_more Intersect q))

  pub intersect_skip : (T : Keys) → contains S k ≡ false → T ≡ with_list Intersect S so_far → T ≡ with_list Intersect S (take (i + 1) keys)
  intersect_skip T absent is = is ∙ same _ _ (λ q.
      contains-with_list Intersect S so_far q ∙ passed (contains S q) (has so_far q) (k == q) (said_of false absent q) ∙ sym (with_more Intersect q))

  -- what was seen of the list so far says of k
  seen_of : (T : Keys) (h : Bool) → T ≡ set.from_list so_far → contains T k ≡ h → (q : ℕ) → (k == q) ≡ true → has so_far q ≡ h
  seen_of T h is said q e = ap (has so_far) (sym (eqb-true k q e)) ∙ sym (listed so_far k) ∙ ap (λ (U : Keys). contains U k) (sym is) ∙ said

  turned : (c h e : Bool) → (e ≡ true → h ≡ false) → either Xor (either Xor c h) (e || false) ≡ either Xor c (h || e)
  turned true true true f = sym (ap not (f refl))
  turned true true false f = refl
  turned true false true f = refl
  turned true false false f = refl
  turned false true true f = sym (f refl)
  turned false true false f = refl
  turned false false true f = refl
  turned false false false f = refl

  pub flip_more : (T U : Keys) → T ≡ set.from_list so_far → contains T k ≡ false → U ≡ with_list Xor S so_far → with_list Xor U (k ∷ []) ≡ with_list Xor S (take (i + 1) keys)
  flip_more T U seen new is = ap (λ (V : Keys). with_list Xor V (k ∷ [])) is ∙ same _ _ (λ q.
      contains-with_list Xor (with_list Xor S so_far) (k ∷ []) q
      ∙ ap (λ b. either Xor b (k == q || false)) (contains-with_list Xor S so_far q)
      ∙ turned (contains S q) (has so_far q) (k == q) (seen_of T false seen new q) ∙ sym (with_more Xor q))

  again : (h e : Bool) → (e ≡ true → h ≡ true) → h ≡ (h || e)
  again true e f = refl
  again false true f = f refl
  again false false f = refl

  pub flip_skip : (T U : Keys) → T ≡ set.from_list so_far → contains T k ≡ true → U ≡ with_list Xor S so_far → U ≡ with_list Xor S (take (i + 1) keys)
  flip_skip T U seen old is = is ∙ same _ _ (λ q.
      contains-with_list Xor S so_far q ∙ ap (either Xor (contains S q)) (again (has so_far q) (k == q) (seen_of T true seen old q)) ∙ sym (with_more Xor q))

-- ---- one number, flipped

module _ (S : Keys) (k : ℕ) where
  flipped_of : (c : Bool) → contains S k ≡ c → (q : ℕ) → (k == q) ≡ true → contains S q ≡ c
  flipped_of c is q e = ap (contains S) (sym (eqb-true k q e)) ∙ is

  went : (c e : Bool) → (e ≡ true → c ≡ true) → (not e && c) ≡ either Xor c (e || false)
  went true true f = refl
  went true false f = refl
  went false true f = f refl
  went false false f = refl

  came : (c e : Bool) → (e ≡ true → c ≡ false) → (e || (not e && c)) ≡ either Xor c (e || false)
  came true true f = f refl
  came true false f = refl
  came false true f = refl
  came false false f = refl

  pub flip_out : (T : Keys) → contains S k ≡ true → T ≡ set.remove S k → T ≡ with_list Xor S (k ∷ [])
  flip_out T here is = is ∙ same _ _ (λ q.
      out S k q ∙ went (contains S q) (k == q) (flipped_of true here q) ∙ sym (contains-with_list Xor S (k ∷ []) q))

  pub flip_in : (T U : Keys) → contains S k ≡ false → T ≡ set.remove S k → U ≡ set.insert T k → U ≡ with_list Xor S (k ∷ [])
  flip_in T U absent is then = then ∙ ap (λ (V : Keys). set.insert V k) is ∙ same _ _ (λ q.
      put (set.remove S k) k q ∙ ap (λ b. k == q || b) (out S k q)
      ∙ came (contains S q) (k == q) (flipped_of false absent q) ∙ sym (contains-with_list Xor S (k ∷ []) q))

  still : (c e : Bool) → (not e && c) ≡ true → c ≡ true
  still true e h = refl
  still false true h = h
  still false false h = h

  pub room_to_flip : (bits b : ℕ) (T : Keys) → HasRoom bits S (k ∷ []) → b ≡ bits → T ≡ set.remove S k → set.len T + 1 < 2 ^ b
  room_to_flip bits b T room same_bits is =
      let few = len-part (set.remove S k) (with_list Union S (k ∷ [])) (λ q e. contains-with_list Union S (k ∷ []) q ∙ or_left _ _ (still (contains S q) (k == q) (sym (out S k q) ∙ e))) in
      rw (same_bits, is) (omega (arith, room, few))

-- ---- room

from_either : (how : How) (a b c : Bool) → (b ≡ true → c ≡ true) → either how a b ≡ true → (a || c) ≡ true
from_either how true b c f e = refl
from_either how false true c f e = f refl
from_either Intersect false false c f e = absurd_of e
  where
    absurd_of : false ≡ true → c ≡ true
    absurd_of e = (cc)
from_either Union false false c f e = absurd_of e
  where
    absurd_of : false ≡ true → c ≡ true
    absurd_of e = (cc)
from_either Subtract false false c f e = absurd_of e
  where
    absurd_of : false ≡ true → c ≡ true
    absurd_of e = (cc)
from_either Xor false false c f e = absurd_of e
  where
    absurd_of : false ≡ true → c ≡ true
    absurd_of e = (cc)

has_front : (keys : List ℕ) (i q : ℕ) → has (take i keys) q ≡ true → has keys q ≡ true
has_front keys i q e =
    ap (λ l. has l q) (sym (take-append-drop i keys)) ∙ list_any-append (λ y. y == q) (take i keys) (drop i keys) ∙ or_left (has (take i keys) q) (has (drop i keys) q) e

front_part : (how : How) (S : Keys) (keys : List ℕ) (i : ℕ) → IsPart (with_list how S (take i keys)) (with_list Union S keys)
front_part how S keys i q e =
    contains-with_list Union S keys q
    ∙ from_either how (contains S q) (has (take i keys) q) (has keys q) (has_front keys i q) (sym (contains-with_list how S (take i keys) q) ∙ e)

-- room for all of a list is room for what was made of its front
pub room_on : (how : How) (bits b i : ℕ) (S T : Keys) (keys : List ℕ) → T ≡ with_list how S (take i keys) → b ≡ bits → HasRoom bits S keys → set.len T + 1 < 2 ^ b
room_on how bits b i S T keys is same_bits room =
    let few = len-part (with_list how S (take i keys)) (with_list Union S keys) (front_part how S keys i) in
    rw (same_bits, is) (omega (arith, room, few))

-- the least size for so many numbers leaves a cell free
pub room_of_size : (n b : ℕ) → IsCapacity MIN_BITS n b → n + 1 < 2 ^ b
room_of_size n b size = let eight : 2 ^ 3 ≤ 2 ^ b = pow_mono {j = b} size.no_less in omega (arith, size.fits, eight)

-- a table for so many different numbers, or for as many as the list has, takes what was seen of it
pub room_to_see : (most bits b i : ℕ) (S T : Keys) (keys : List ℕ) → T ≡ set.from_list (take i keys) → b ≡ bits → HasAtMost most S keys → (n : ℕ) → n ≡ min most (length keys) → IsCapacity MIN_BITS n bits → set.len T + 1 < 2 ^ b
room_to_see most bits b i S T keys is same_bits few n lesser size =
    let part = len-part (set.from_list (take i keys)) (with_list Union S keys) (λ q e. contains-with_list Union S keys q ∙ or_right (contains S q) (has keys q) (has_front keys i q (sym (listed (take i keys) q) ∙ e))) in
    rw (same_bits, is) (omega (arith, few, part, len-from_list (take i keys), length-take i keys, lesser, room_of_size n bits size))

-- a table for the lesser of a set and a list takes what both have
pub room_for_both : (bits b i : ℕ) (S T : Keys) (keys : List ℕ) → T ≡ with_list Intersect S (take i keys) → b ≡ bits → (n : ℕ) → n ≡ min (set.len S) (length keys) → IsCapacity MIN_BITS n bits → set.len T + 1 < 2 ^ b
room_for_both bits b i S T keys is same_bits n lesser size =
    let both : (q : ℕ) → contains (with_list Intersect S (take i keys)) q ≡ true → (contains S q && has (take i keys) q) ≡ true = λ q e. sym (contains-with_list Intersect S (take i keys) q) ∙ e in
    let of_set = len-part (with_list Intersect S (take i keys)) S (λ q e. (and_parts (contains S q) (has (take i keys) q) (both q e)).0) in
    let of_list = len-part (with_list Intersect S (take i keys)) (set.from_list (take i keys)) (λ q e. listed (take i keys) q ∙ (and_parts (contains S q) (has (take i keys) q) (both q e)).1) in
    rw (same_bits, is) (omega (arith, of_set, of_list, len-from_list (take i keys), length-take i keys, lesser, room_of_size n bits size))

-- a set has no more than it has with a list
pub len-before : (S : Keys) (keys : List ℕ) → set.len S ≤ set.len (with_list Union S keys)
len-before S keys = len-part S (with_list Union S keys) (λ q e. contains-with_list Union S keys q ∙ or_left (contains S q) (has keys q) e)

-- the table of the first list takes it
enough : (how : How) (most many : ℕ) → min most many ≤ first_count how most many
enough Intersect most many = omega arith
enough Union most many = omega arith
enough Subtract most many = omega arith
enough Xor most many = omega arith

pub room_at_first : (how : How) (most many bits b : ℕ) (S : Keys) (keys : List ℕ) → S ≡ none_set → b ≡ bits → many ≡ first_count how most (length keys) → HasAtMost most none_set keys → IsCapacity MIN_BITS many bits → HasRoom b S keys
room_at_first how most many bits b S keys none same_bits is few size =
    let all = ap (λ (T : Keys). set.len T) (union_first keys) in
    rw (none, same_bits) (omega (arith, all, few, len-from_list keys, room_of_size many bits size, is, enough how most (length keys)))

-- and those behind it
pub takes_later : (how : How) (most many bits : ℕ) → IsCapacity MIN_BITS (first_count how most many) bits → TakesLater how most bits
takes_later Intersect most many bits size = tt
takes_later Union most many bits size = room_of_size _ _ size
takes_later Subtract most many bits size = tt
takes_later Xor most many bits size = room_of_size _ _ size

pub takes_still : (how : How) (most old bits : ℕ) (S : Keys) (keys : List ℕ) → IsSizedAfter how old S keys bits → TakesLater how most old → TakesLater how most bits
takes_still Intersect most old bits S keys size takes = tt
takes_still Union most old bits S keys size takes = rw size takes
takes_still Subtract most old bits S keys size takes = tt
takes_still Xor most old bits S keys size takes = rw size takes

-- and for the next number, which is flipped
module _ (bits b i : ℕ) (S T : Keys) (keys : List ℕ) (inside : i < length keys) (is : T ≡ with_list Xor S (take i keys)) (same_bits : b ≡ bits) where
  next_there : (q : ℕ) → has (get_or keys i 0 ∷ []) q ≡ true → has keys q ≡ true
  next_there q e =
      has_front keys (i + 1) q (list_any_more (λ y. y == q) keys i 0 inside ∙ or_right (has (take i keys) q) (get_or keys i 0 == q) (sym (or_false (get_or keys i 0 == q)) ∙ e))

  both_there : (a b c : Bool) → (a ≡ true → c ≡ true) → (b ≡ true → c ≡ true) → (a || b) ≡ true → c ≡ true
  both_there true b c f g e = f refl
  both_there false b c f g e = g e

  next_part : IsPart (with_list Union (with_list Xor S (take i keys)) (get_or keys i 0 ∷ [])) (with_list Union S keys)
  next_part q e =
      both_there (contains (with_list Xor S (take i keys)) q) (has (get_or keys i 0 ∷ []) q) (contains (with_list Union S keys) q)
      (front_part Xor S keys i q)
      (λ next. contains-with_list Union S keys q ∙ or_right (contains S q) (has keys q) (next_there q next))
      (sym (contains-with_list Union (with_list Xor S (take i keys)) (get_or keys i 0 ∷ []) q) ∙ e)

  pub room_for_next : HasRoom bits S keys → HasRoom b T (get_or keys i 0 ∷ [])
  room_for_next room =
      let few = len-part _ _ next_part in
      rw (same_bits, is) (omega (arith, room, few))

-- ---- the lists behind slices

meant_more : (how : How) (lists : List (List ℕ)) (keys : List ℕ) → 0 < length lists → meant how (lists ++ keys ∷ []) ≡ with_list how (meant how lists) keys
meant_more how [] keys some = absurd (omega (arith, some))
meant_more how (first ∷ others) keys some = fold_push (with_list how) (set.from_list first) others keys

module _ {X : Type 0} (f : X → List ℕ) (xs : List X) (i : ℕ) (d : X) (inside : i < length xs) where
  abbrev next : List ℕ
  next = f (get_or xs i d)

  abbrev before : List (List ℕ)
  before = map f (take i xs)

  lists_more : map f (take (i + 1) xs) ≡ before ++ next ∷ []
  lists_more = ap (map f) (take_more xs i d inside) ∙ map-append f (take i xs) (get_or xs i d ∷ [])

  lists_split : map f xs ≡ before ++ next ∷ map f (drop (suc i) xs)
  lists_split = ap (map f) (sym (take-append-drop i xs)) ∙ map-append f (take i xs) (drop i xs) ∙ ap (λ l. before ++ map f l) (drop-cons xs i d inside)

  in_all : (q : ℕ) → (list_any (λ keys. has keys q) before || has next q) ≡ true → list_any (λ keys. has keys q) (map f xs) ≡ true
  in_all q e =
      ap (list_any (λ keys. has keys q)) lists_split ∙ list_any-append (λ keys. has keys q) before (next ∷ map f (drop (suc i) xs))
      ∙ spread (list_any (λ keys. has keys q) before) (has next q) (list_any (λ keys. has keys q) (map f (drop (suc i) xs))) e
    where
      spread : (a b c : Bool) → (a || b) ≡ true → (a || (b || c)) ≡ true
      spread true b c e = refl
      spread false true c e = refl
      spread false false c e = absurd_of e
        where
          absurd_of : false ≡ true → c ≡ true
          absurd_of e = (cc)

  both_in : (how : How) (q : ℕ) → (a : Bool) → contains (meant how before) q ≡ a → (a || has next q) ≡ true → (list_any (λ keys. has keys q) before || has next q) ≡ true
  both_in how q true is e = or_left (list_any (λ keys. has keys q) before) (has next q) (has_some q how before is)
  both_in how q false is e = or_right (list_any (λ keys. has keys q) before) (has next q) e

  one_more_part : (how : How) → IsPart (with_list Union (meant how before) next) (meant Union (map f xs))
  one_more_part how q e =
      stands_is q Union (map f xs)
      ∙ in_all q (both_in how q (contains (meant how before) q) refl (sym (contains-with_list Union (meant how before) next q) ∙ e))

  -- what all lists have at most, one of them has, and what was made of those before it with it
  pub few_in_slice : (most : ℕ) (how : How) (S : Keys) → S ≡ meant how before → set.len (meant Union (map f xs)) ≤ most → HasAtMost most S next
  few_in_slice most how S is few = let part = len-part _ _ (one_more_part how) in rw is (omega (arith, few, part))

  pub few_at_first : (most : ℕ) → set.len (meant Union (map f xs)) ≤ most → HasAtMost most none_set next
  few_at_first most few =
      let part = len-part (with_list Union none_set next) (meant Union (map f xs)) (λ q e. stands_is q Union (map f xs) ∙ in_all q (or_right (list_any (λ keys. has keys q) before) (has next q) (sym (listed next q) ∙ ap (λ (T : Keys). contains T q) (sym (union_first next)) ∙ e))) in
      omega (arith, few, part)

  pub first_slice : (how : How) (T : Keys) → i ≡ 0 → T ≡ set.from_list next → T ≡ meant how (map f (take (i + 1) xs))
  first_slice how T first is = is ∙ sym (ap (meant how) (lists_more ∙ ap (λ n. map f (take n xs) ++ next ∷ []) first))

  pub later_slice : (how : How) (S T : Keys) → 0 < i → S ≡ meant how before → T ≡ with_list how S next → T ≡ meant how (map f (take (i + 1) xs))
  later_slice how S T some is more =
      more ∙ ap (λ (U : Keys). with_list how U next) is
      ∙ sym (ap (meant how) lists_more ∙ meant_more how before next (omega (arith, length-map (take i xs) f, length-take i xs)))

-- ---- what an insertion tells

pub new_one : (b : Bool) → not b ≡ true → b ≡ false
new_one true e = sym e
new_one false e = refl

pub old_one : (b : Bool) → not b ≡ false → b ≡ true
old_one true e = refl
old_one false e = sym e
