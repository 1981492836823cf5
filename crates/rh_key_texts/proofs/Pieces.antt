-- The texts of pieces of a list, one after the other.
use Rattle.std.proofs.Common.{◌≡◌, ℕ, List, [], ◌∷◌, ◌++◌, Option, refl, sym, ap, subst, ◌∙◌}
use Rattle.std.specs.List.{flat_map}
use Rattle.std.specs.Io.KnownBytes.{Appends}
use Rattle.std.proofs.lemmas.List.Concat.{flat_map-append}
use Rattle.rh_bytes.specs.Counting.{AppendsFront}
use Rattle.rh_key_files.specs.Reading.{IsLongReadFrom}
use Rattle.rh_numbers.specs.Writing.{number_line, text_of}

module _ {X : Type 0} (keys : X → List ℕ) where
  pub text_in_pieces : (pieces : List X) → flat_map (λ piece. text_of (keys piece)) pieces ≡ text_of (flat_map keys pieces)
  text_in_pieces [] = refl
  text_in_pieces (piece ∷ pieces) =
      ap (λ l. text_of (keys piece) ++ l) (text_in_pieces pieces) ∙ sym (flat_map-append number_line (keys piece) (flat_map keys pieces))

  -- what was written of pieces that were read
  module _ (bytes left old new : Option (List ℕ)) (pieces given : List X) (same : given ≡ pieces) (read : IsLongReadFrom bytes left (flat_map keys pieces)) where
    text_of_given : flat_map (λ piece. text_of (keys piece)) given ≡ text_of (flat_map keys pieces)
    text_of_given = text_in_pieces given ∙ ap (λ ps. text_of (flat_map keys ps)) same

    pub all_written : Appends old new (flat_map (λ piece. text_of (keys piece)) given) → (ks : List ℕ) × IsLongReadFrom bytes left ks × Appends old new (text_of ks)
    all_written written = (flat_map keys pieces, read, subst (Appends old new) text_of_given written)

    pub front_written : AppendsFront old new (flat_map (λ piece. text_of (keys piece)) given) → (ks : List ℕ) × IsLongReadFrom bytes left ks × AppendsFront old new (text_of ks)
    front_written written = (flat_map keys pieces, read, subst (AppendsFront old new) text_of_given written)
