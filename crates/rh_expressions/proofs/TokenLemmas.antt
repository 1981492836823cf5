-- The tokens of a text, one after the other, and names among names.
use Rattle.std.proofs.Common.{◌≡◌, ◌∙◌, ℕ, suc, ◌+◌, ◌<◌, Bool, cond, List, [], ◌∷◌, ◌++◌, length, take, drop, Some, None, inl, inr, refl, ap, sym, arith}
use Rattle.std.proofs.lemmas.Bool.{cases_Bool, ltb-false}
use Rattle.std.proofs.lemmas.List.{drop_more, take_all}
use Rattle.std.specs.Prelude.{get_or, nat_lt, map, not, ◌||◌, unwrap_or}
use Rattle.std.specs.List.{list_any, position, position_or_len}
use Rattle.rh_expressions.specs.declared.token.Token.{Token}
use Rattle.rh_expressions.specs.Tokens.{begins, is_of_name, kind_at, tokens_of}

-- ---- a list, and what is made of each of its items

pub any_map : {X Y : Type 0} (p : Y → Bool) (f : X → Y) (xs : List X) → list_any (λ x. p (f x)) xs ≡ list_any p (map f xs)
any_map p f [] = refl
any_map p f (x ∷ xs) = ap (λ b. p (f x) || b) (any_map p f xs)

position_or_len_map : {X Y : Type 0} (p : Y → Bool) (f : X → Y) (xs : List X) → position_or_len (λ x. p (f x)) xs ≡ position_or_len p (map f xs)
position_or_len_map p f [] = refl
position_or_len_map p f (x ∷ xs) = ap (λ n. cond (not (p (f x))) (1 + n) 0) (position_or_len_map p f xs)

length_map : {X Y : Type 0} (f : X → Y) (xs : List X) → length xs ≡ length (map f xs)
length_map f [] = refl
length_map f (x ∷ xs) = ap suc (length_map f xs)

pub position_map : {X Y : Type 0} (p : Y → Bool) (f : X → Y) (xs : List X) → position (λ x. p (f x)) xs ≡ position p (map f xs)
position_map p f xs =
    ap (λ n. cond (nat_lt n (length xs)) (Some n) None) (position_or_len_map p f xs)
    ∙ ap (λ l. cond (nat_lt (position_or_len p (map f xs)) l) (Some (position_or_len p (map f xs))) None) (length_map f xs)

-- ---- a name

-- what stands before the first that passes, or all
pub before_found : (p : ℕ → Bool) (text : List ℕ) → take (unwrap_or (position p text) (length text)) text ≡ take (position_or_len p text) text
before_found p text =
    elim (cases_Bool (nat_lt (position_or_len p text) (length text))) [
      | inl at ↦ rw at refl
      | inr none ↦ rw none (take_all (length text) text (omega arith) ∙ sym (take_all (position_or_len p text) text (ltb-false _ _ none)))
    ]

-- ---- tokens

-- the token that a byte of the text begins, if it begins one
abbrev pub token_at : (names : List (List ℕ)) → (at : ℕ) → (in_name : Bool) → (b : ℕ) (text : List ℕ) → List Token
token_at names at in_name b text = cond (begins in_name b) (record { at = at; kind = kind_at names text } ∷ []) []

append_assoc : {X : Type 0} (xs ys zs : List X) → xs ++ (ys ++ zs) ≡ (xs ++ ys) ++ zs
append_assoc [] ys zs = refl
append_assoc (x ∷ xs) ys zs = ap (λ l. x ∷ l) (append_assoc xs ys zs)

-- the tokens found before this byte, and what it begins
pub one_token : (names : List (List ℕ)) (text : List ℕ) (at : ℕ) (in_name : Bool) (all tokens : List Token)
    → at < length text → all ≡ tokens ++ tokens_of names at in_name (drop at text)
    → all ≡ (tokens ++ token_at names at in_name (get_or text at 0) (drop at text)) ++ tokens_of names (at + 1) (is_of_name (get_or text at 0)) (drop (at + 1) text)
one_token names text at in_name all tokens within so_far =
    let b = get_or text at 0 in
    let rest = drop (at + 1) text in
    let next = drop_more text at 0 within in
    so_far ∙ ap (λ t. tokens ++ tokens_of names at in_name t) next
    ∙ append_assoc tokens (token_at names at in_name b (b ∷ rest)) (tokens_of names (at + 1) (is_of_name b) rest)
    ∙ ap (λ t. (tokens ++ token_at names at in_name b t) ++ tokens_of names (at + 1) (is_of_name b) rest) (sym next)
