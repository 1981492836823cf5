-- Parts of pieces, and of whole lists.
use Rattle.std.proofs.Common.{◌≡◌, ◌≢◌, ◌∙◌, ap, sym, subst, refl, ℕ, zero, suc, ◌+◌, ◌<◌, arith, Bool, true, false, cond, List, [], ◌∷◌, ◌++◌, length, take, get_or, Ok, Result}
use Rattle.std.specs.Prelude.{map, All, IfOk, ◌==◌, slice_index}
use Rattle.std.specs.List.{flat_map}
use Rattle.std.proofs.lemmas.Bool.{eq-eqb, ne_eqb}
use Rattle.std.proofs.lemmas.List.{append-nil, get_or-map, length-map, map-append, take_more}
use Rattle.std.proofs.lemmas.Simd.{map-map}
use Rattle.std.proofs.lemmas.List.Concat.{flat_map-append}
use Rattle.std.proofs.lemmas.List.Elements.{All-cons, All-nil, filter-append, filter_more}
use Rattle.rh_layout.specs.Range.{stands}
use Rattle.rh_cutting.specs.Borders.{AreCut, AreParts, IsCut, between, part_of}

all_both : {A : Type 0} (P : A → Type 0) (xs ys : List A) → All P xs → All P ys → All P (xs ++ ys)
all_both P [] ys before behind i d inside = behind i d inside
all_both P (x ∷ xs) ys before behind zero d inside = before 0 x (omega arith)
all_both P (x ∷ xs) ys before behind (suc k) d inside = all_both P xs ys (λ j e there. before (suc j) e (omega (arith, there))) behind k d (omega (arith, inside))

-- ---- a key more of a piece

module _ (borders keys : List ℕ) (i n p : ℕ) (inside : i < length keys) (part : stands (slice_index borders p) (slice_index borders (p + 1)) (slice_index keys i) ≡ (n == p)) where
  more : (t : Bool) → (n == p) ≡ t → between borders p (p + 1) (take (i + 1) keys) ≡ between borders p (p + 1) (take i keys) ++ cond t (get_or keys i 0 ∷ []) []
  more t is =
      filter_more (stands (slice_index borders p) (slice_index borders (p + 1))) keys i 0 inside
      ∙ ap (λ b. between borders p (p + 1) (take i keys) ++ cond b (get_or keys i 0 ∷ []) []) (part ∙ is)

  pub key_more : (old new : List ℕ) → p ≡ n → old ≡ between borders p (p + 1) (take i keys) → new ≡ old ++ get_or keys i 0 ∷ [] → new ≡ between borders p (p + 1) (take (i + 1) keys)
  key_more old new here before after = after ∙ ap (λ l. l ++ get_or keys i 0 ∷ []) before ∙ sym (more true (eq-eqb n p (sym here)))

  pub key_elsewhere : (old new : List ℕ) → p ≢ n → old ≡ between borders p (p + 1) (take i keys) → new ≡ old → new ≡ between borders p (p + 1) (take (i + 1) keys)
  key_elsewhere old new there before after = after ∙ before ∙ sym (more false (ne_eqb n p (λ e. there (sym e))) ∙ append-nil (between borders p (p + 1) (take i keys)))

-- ---- the pieces of a list

pub no_piece : (borders : List ℕ) (cut : List (List (List ℕ))) → cut ≡ [] → IsCut borders [] cut
no_piece borders cut none = subst (IsCut borders []) (sym none) (record { many = λ i d there. absurd (omega (arith, there)); each = λ p inside. refl })

pub one_piece : (borders keys : List ℕ) (parts : List (List ℕ)) → AreParts borders keys parts → IsCut borders keys (parts ∷ [])
one_piece borders keys parts are = record {
  many = λ i d there. first i d there;
  each = λ p inside. append-nil (get_or parts p []) ∙ are.each p (omega (arith, are.many, inside));
}
  where
    first : (i : ℕ) (d : List (List ℕ)) → i < 1 → length (get_or (parts ∷ []) i d) + 1 ≡ length borders
    first zero d there = are.many
    first (suc i) d there = absurd (omega (arith, there))

-- two lists of pieces, one behind the other
pub both_cut : (borders keys more both : List ℕ) (first second whole : List (List (List ℕ))) → whole ≡ first ++ second → both ≡ keys ++ more → IsCut borders keys first → IsCut borders more second → IsCut borders both whole
both_cut borders keys more both first second whole is joined before behind = record {
  many = subst (All (λ (parts : List (List ℕ)). length parts + 1 ≡ length borders)) (sym is) (all_both (λ (parts : List (List ℕ)). length parts + 1 ≡ length borders) first second before.many behind.many);
  each = λ p inside.
      ap (λ l. part_of l p) is ∙ flat_map-append (λ (parts : List (List ℕ)). get_or parts p []) first second
      ∙ (λ j. before.each p inside j ++ behind.each p inside j)
      ∙ sym (ap (between borders p (p + 1)) joined ∙ filter-append (stands (slice_index borders p) (slice_index borders (p + 1))) keys more);
}

-- and one piece more
pub piece_more : {X : Type 0} (f : X → List ℕ) (borders : List ℕ) (pieces : List X) (i : ℕ) (x : X) (cut new : List (List (List ℕ))) (parts : List (List ℕ)) → i < length pieces → x ≡ get_or pieces i x → new ≡ cut ++ parts ∷ []
    → IsCut borders (flat_map f (take i pieces)) cut → AreParts borders (f x) parts → IsCut borders (flat_map f (take (i + 1) pieces)) new
piece_more f borders pieces i x cut new parts inside here is before are =
    let joined : flat_map f (take (i + 1) pieces) ≡ flat_map f (take i pieces) ++ f x =
    ap (flat_map f) (take_more pieces i x inside ∙ ap (λ (y : _). take i pieces ++ y ∷ []) (sym here)) ∙ flat_map-append f (take i pieces) (x ∷ []) ∙ ap (λ l. flat_map f (take i pieces) ++ l) (append-nil (f x)) in
    both_cut borders (flat_map f (take i pieces)) (f x) (flat_map f (take (i + 1) pieces)) cut (parts ∷ []) new is joined before (one_piece borders (f x) parts are)

-- what is so of each result is so of what was made-- what is so of each result is so of what was made
pub one_done : {V E : Type 0} (P : V → Type 0) (made : List V) (tried : List (Result V E)) (i : ℕ) (d : V) → map Ok made ≡ tried → i < length made → IfOk (get_or tried i (Ok d)) P → P (get_or made i d)
one_done P made tried i d is inside each =
    let same : get_or tried i (Ok d) ≡ Ok (get_or made i d) = ap (λ l. get_or l i (Ok d)) (sym is) ∙ get_or-map Ok made i d (Ok d) inside in
    subst (λ r. IfOk r P) same each

pub as_many : {V E : Type 0} (made : List V) (tried : List (Result V E)) → map Ok made ≡ tried → length made ≡ length tried
as_many {V} {E} made tried is = sym (length-map {B = Result V E} made Ok) ∙ ap length is

-- ---- the lists of a part

pub parts_inside : {V : Type 0} (f : V → List (List (List ℕ))) (borders : List ℕ) (part : ℕ) (lists : List V) → part + 1 < length borders
    → All (λ (pieces : List (List (List ℕ))). All (λ (parts : List (List ℕ)). length parts + 1 ≡ length borders) pieces) (map f lists)
    → All (λ v. All (λ (parts : List (List ℕ)). part < length parts) (f v)) lists
parts_inside f borders part [] inside all i d there = absurd (omega (arith, there))
parts_inside f borders part (x ∷ lists) inside all zero d there = λ k e here. let this = all 0 [] (omega arith) k e here in omega (arith, this, inside)
parts_inside f borders part (x ∷ lists) inside all (suc i) d there = parts_inside f borders part lists inside (λ j e here. all (suc j) e (omega (arith, here))) i d (omega (arith, there))

-- what was gathered of each list is what the lists have in the part
pub of_lists : {V : Type 0} (f : V → List (List (List ℕ))) (borders : List ℕ) (lists : List (List ℕ)) (cut : List V) (part : ℕ) → AreCut borders lists (map f cut) → part + 1 < length borders
    → map (λ v. part_of (f v) part) cut ≡ map (between borders part (part + 1)) lists
of_lists f borders lists cut part are inside = sym (map-map (λ pieces. part_of pieces part) f cut) ∙ are.each part inside

-- ---- one list after the other

pub none_cut : (borders : List ℕ) (cut : List (List (List (List ℕ)))) → cut ≡ [] → AreCut borders [] cut
none_cut borders cut none = subst (AreCut borders []) (sym none) (record { many = λ i d there. absurd (omega (arith, there)); each = λ p inside. refl })

pub cut_more : {X V : Type 0} (f : X → List ℕ) (h : V → List (List (List ℕ))) (borders : List ℕ) (done : List X) (x : X) (cut new : List V) (v : V) → new ≡ cut ++ v ∷ [] → AreCut borders (map f done) (map h cut)
    → IsCut borders (f x) (h v)
    → AreCut borders (map f (done ++ x ∷ [])) (map h new)
cut_more f h borders done x cut new v is before is_cut =
    let both : map h new ≡ map h cut ++ h v ∷ [] = ap (map h) is ∙ map-append h cut (v ∷ []) in
    record {
      many = subst (All (λ (pieces : List (List (List ℕ))). All (λ (parts : List (List ℕ)). length parts + 1 ≡ length borders) pieces)) (sym both)
          (all_both (λ (pieces : List (List (List ℕ))). All (λ (parts : List (List ℕ)). length parts + 1 ≡ length borders) pieces) (map h cut) (h v ∷ []) before.many (All-cons (All (λ (parts : List (List ℕ)). length parts + 1 ≡ length borders)) (h v) [] is_cut.many (All-nil (All (λ (parts : List (List ℕ)). length parts + 1 ≡ length borders)))));
      each = λ p inside.
          ap (map (λ pieces. part_of pieces p)) both
          ∙ map-append (λ pieces. part_of pieces p) (map h cut) (h v ∷ [])
          ∙ (λ j. before.each p inside j ++ is_cut.each p inside j ∷ [])
          ∙ sym (ap (map (between borders p (p + 1))) (map-append f done (x ∷ [])) ∙ map-append (between borders p (p + 1)) (map f done) (f x ∷ []));
    }
