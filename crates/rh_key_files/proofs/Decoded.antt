-- Numbers that are made of the bytes that spell them.
use Rattle.std.proofs.Common.{◌≡◌, ◌∙◌, sym, ap, ℕ, zero, suc, ◌+◌, ◌*◌, ◌<◌, ◌≤◌, List, [], ◌∷◌, ◌++◌, length, take, drop, get_or, get_or-drop, drop-drop, length-take, length-drop, take-append-drop, arith}
use Rattle.std.specs.Int.{w64, from_be_bytes}
use Rattle.std.proofs.lemmas.List.{nil_from_length}
use Rattle.std.proofs.lemmas.Nat.{be_bytes_8}
use Rattle.byteorder.specs.Endian.{IsRead, big_number}
use Rattle.byteorder.specs.Numbers.{big_from-take}
use Rattle.rh_bytes.specs.Input.{eight_bytes}
use Rattle.rh_key_files.specs.KeyFile.{spelled_keys}

abbrev AreBytes : List ℕ → Type 0
AreBytes bytes = (i : ℕ) → get_or bytes i 0 < 256

eight_read : (bytes : List ℕ) → big_number 8 bytes ≡ from_be_bytes w64 bytes
eight_read bytes = omega arith

front_bytes : (n : ℕ) (bytes : List ℕ) → AreBytes bytes → AreBytes (take n bytes)
front_bytes zero bytes small i = omega arith
front_bytes (suc n) [] small i = omega arith
front_bytes (suc n) (b ∷ bytes) small zero = small zero
front_bytes (suc n) (b ∷ bytes) small (suc i) = front_bytes n bytes (λ j. small (suc j)) i

first_spelled : (bytes : List ℕ) (n : ℕ) → 8 ≤ length bytes → AreBytes bytes → n ≡ big_number 8 bytes → eight_bytes n ≡ take 8 bytes
first_spelled bytes n long small is =
    be_bytes_8 (take 8 bytes) n (omega (arith, length-take 8 bytes)) (front_bytes 8 bytes small) (is ∙ sym (big_from-take 0 8 8 bytes (omega arith)) ∙ eight_read (take 8 bytes))

next_eight : (k : ℕ) (bytes : List ℕ) → drop (8 * suc k) bytes ≡ drop (8 * k) (drop 8 bytes)
next_eight k bytes =
    let more : 8 * suc k ≡ 8 + 8 * k = omega arith in
    ap (λ m. drop m bytes) more ∙ sym (drop-drop (8 * k) 8 bytes)

pub decoded : (numbers bytes : List ℕ) → length bytes ≡ 8 * length numbers → AreBytes bytes → IsRead big_number 8 bytes numbers → spelled_keys numbers ≡ bytes
decoded [] bytes many small read = sym (nil_from_length bytes many)
decoded (n ∷ numbers) bytes many small read =
    let first : eight_bytes n ≡ take 8 bytes = first_spelled bytes n (omega (arith, many)) small (read 0 (omega arith)) in
    let others : spelled_keys numbers ≡ drop 8 bytes =
    decoded numbers (drop 8 bytes) (omega (arith, many, length-drop 8 bytes)) (λ i. rw (get_or-drop 8 bytes i 0) (small (8 + i))) (λ k less. read (suc k) (omega (arith, less)) ∙ ap (big_number 8) (next_eight k bytes)) in
    ap (λ l. l ++ spelled_keys numbers) first ∙ ap (λ l. take 8 bytes ++ l) others ∙ take-append-drop 8 bytes
