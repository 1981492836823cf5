-- Bytes and the numbers that they spell.
use Rattle.std.proofs.Common.{◌≡◌, ℕ, zero, suc, ◌<◌, ◌%◌, true, false, List, [], ◌∷◌, ◌++◌, length, get_or, take, refl, arith, leb}
use Rattle.std.specs.List.{list_all}
use Rattle.std.specs.Int.{w64, to_be_bytes}
use Rattle.std.proofs.lemmas.Bool.{ltb-true, lt-ltb, le-leb, lt-leb, and_parts, and_from, and_left}
use Rattle.std.proofs.lemmas.List.{take_at, length-append}
use Rattle.std.proofs.Math.Nat.{mod-lt}
use Rattle.rh_bytes.specs.Input.{is_byte, begins_with_bytes}

-- numbers below 256 are bytes, and the other way round
pub are_bytes : (bs : List ℕ) → ((i : ℕ) → get_or bs i 0 < 256) → list_all is_byte bs ≡ true
are_bytes [] small = refl
are_bytes (b ∷ bs) small = and_from (is_byte b) (list_all is_byte bs) (lt-ltb b 256 (small 0)) (are_bytes bs (λ i. small (suc i)))

pub bytes_below : (bs : List ℕ) → list_all is_byte bs ≡ true → (i : ℕ) → get_or bs i 0 < 256
bytes_below [] all i = omega arith
bytes_below (b ∷ bs) all zero = ltb-true b 256 ((and_parts (is_byte b) (list_all is_byte bs) all).0)
bytes_below (b ∷ bs) all (suc i) = bytes_below bs ((and_parts (is_byte b) (list_all is_byte bs) all).1) i

-- where bytes stand, and where there are too few
pub begins : (front rest : List ℕ) → list_all is_byte front ≡ true → begins_with_bytes (length front) (front ++ rest) ≡ true
begins front rest all =
    and_from (leb (length front) (length (front ++ rest))) (list_all is_byte (take (length front) (front ++ rest))) (le-leb _ _ (omega (arith, length-append front rest))) (rw (take_at front rest (length front) refl) all)

pub begins_not : (n : ℕ) (bytes : List ℕ) → length bytes < n → begins_with_bytes n bytes ≡ false
begins_not n bytes few = and_left (leb n (length bytes)) (list_all is_byte (take n bytes)) (lt-leb n (length bytes) few)

byte : (n : ℕ) → is_byte (n % 256) ≡ true
byte n = lt-ltb (n % 256) 256 (mod-lt n (omega arith))

pub spelled_bytes : (n : ℕ) → list_all is_byte (to_be_bytes w64 n) ≡ true
spelled_bytes n = simp byte
