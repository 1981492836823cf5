-- A seal is 32 bytes.
use Rattle.std.proofs.Common.{◌≡◌, ℕ, zero, suc, ◌%◌, true, List, refl, ◌∙◌, arith}
use Rattle.std.specs.List.{list_all}
use Rattle.std.specs.Int.{w32, to_be_bytes}
use Rattle.std.specs.Prelude.{slice_index}
use Rattle.std.proofs.lemmas.Bool.{and_from, lt-ltb}
use Rattle.std.proofs.lemmas.List.Folds.{list_all-append}
use Rattle.std.proofs.Math.Nat.{mod-lt}
use Rattle.sha2.specs.Sha256.{digest_bytes, final_hash, initial_hash_256, sha256}
use Rattle.rh_bytes.specs.Input.{is_byte}

byte : (n : ℕ) → is_byte (n % 256) ≡ true
byte n = lt-ltb (n % 256) 256 (mod-lt n (omega arith))

word_bytes : (n : ℕ) → list_all is_byte (to_be_bytes w32 n) ≡ true
word_bytes n = simp byte

words_bytes : (h : List ℕ) (n : ℕ) → list_all is_byte (digest_bytes h n) ≡ true
unfolding digest_bytes
words_bytes h zero = refl
words_bytes h (suc n) =
    let word = to_be_bytes w32 (slice_index h n) in
    list_all-append is_byte (digest_bytes h n) word ∙ and_from (list_all is_byte (digest_bytes h n)) (list_all is_byte word) (words_bytes h n) (word_bytes (slice_index h n))

pub seal_bytes : (text : List ℕ) → list_all is_byte (sha256 text) ≡ true
unfolding sha256
seal_bytes text = words_bytes (final_hash initial_hash_256 text) 8
