-- The text of numbers, as one more of them is read.
use Rattle.std.proofs.Common.{◌≡◌, ℕ, List, [], ◌∷◌, ◌++◌, refl, sym, ap, ◌∙◌, append_assoc, append-nil}
use Rattle.std.proofs.lemmas.List.Concat.{flat_map-append}
use Rattle.rh_bytes.specs.Input.{eight_bytes}
use Rattle.rh_snapshot.specs.declared.header.Header.{Header}
use Rattle.rh_snapshot.specs.Snapshot.{spelled_header, spelled_numbers, text_of}

pub text-more : (header : Header) (numbers : List ℕ) (n : ℕ) → text_of header numbers ++ eight_bytes n ≡ text_of header (numbers ++ n ∷ [])
text-more header numbers n =
    let more : spelled_numbers (numbers ++ n ∷ []) ≡ spelled_numbers numbers ++ eight_bytes n = rw flat_map-append (rw append-nil refl) in
    append_assoc (spelled_header header) (spelled_numbers numbers) (eight_bytes n) ∙ ap (λ l. spelled_header header ++ l) (sym more)
