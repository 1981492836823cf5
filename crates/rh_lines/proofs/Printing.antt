-- Printable bytes are a text.
use Rattle.std.proofs.Common.{◌≡◌, ℕ, ◌<◌, true, List, [], ◌∷◌, Bor, Result, Ok, Err, MatchResult, IsOk, refl, arith}
use Rattle.std.specs.Str.{IsUtf8, IsAscii}
use Rattle.std.specs.List.{list_all}
use Rattle.std.proofs.lemmas.Bool.{and_parts}
use Rattle.std.proofs.lemmas.Str.{IsUtf8-from_ascii}
use Rattle.std.proofs.lemmas.Str.Ascii.{IsAscii-nil, IsAscii-cons}
use Rattle.std.proofs.lemmas.Bool.Decides.{nat_tests}
use Rattle.rh_lines.specs.Lines.{is_printable}

below_128 : (b : ℕ) → is_printable b ≡ true → b < 128
below_128 b h = grind (arith, nat_tests)

ascii : (bytes : List ℕ) → list_all is_printable bytes ≡ true → IsAscii bytes
ascii [] h = IsAscii-nil
ascii (b ∷ bs) h =
    let parts = and_parts (is_printable b) (list_all is_printable bs) h in
    IsAscii-cons b bs (below_128 b parts.0) (ascii bs parts.1)

pub can_be_text : {E : Type 0} (P : Bor (List ℕ) → Type 0) (Q : E → Type 0) (bytes : List ℕ) (r : Result (Bor (List ℕ)) E) → list_all is_printable bytes ≡ true → MatchResult r P (λ e. (IsUtf8 bytes → ⊥) × Q e) → IsOk r
can_be_text P Q bytes (Ok text) all cases = refl
can_be_text P Q bytes (Err e) all cases = absurd (cases.0 (IsUtf8-from_ascii bytes (ascii bytes all)))
