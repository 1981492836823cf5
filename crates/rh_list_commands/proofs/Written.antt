-- What is written of numbers, from what the workers wrote of them.
use Rattle.std.proofs.Common.{◌≡◌, ◌∙◌, ℕ, List, [], ◌++◌, length, Option, Result, subst, append_assoc, Err, sym}
use Rattle.std.specs.Io.KnownBytes.{Appends}
use Rattle.rh_bytes.specs.Counting.{AppendsFront, Writes}
use Rattle.rh_bytes.specs.Input.{eight_bytes}
use Rattle.rh_bytes.proofs.Writing.{Writes-then, front_longer}
use Rattle.rh_combine_workers.specs.Spelled.{spelled}
use Rattle.rh_combine.specs.declared.form.Form.TheVariants.{Count, Packed}
use Rattle.rh_key_files.specs.KeyFile.{header, magic, spelled_keys, spelling}
use Rattle.rh_key_files.specs.declared.version.Version.TheVariants.{Second}
use Rattle.rh_numbers.specs.Writing.{number_line}

-- what ended early wrote a front
pub told_front : {X E : Type 0} (a b : Option (List ℕ)) (text : List ℕ) (r : Result X E) (fault : E) → r ≡ Err fault → AppendsFront a b text → Writes a b text r
told_front a b text r fault is front = subst (Writes a b text) (sym is) front

-- numbers that are counted are not written, and then comes their number
pub counted : {X E : Type 0} (a b c : Option (List ℕ)) (ns : List ℕ) (n : ℕ) (r : Result X E) → Appends a b (spelled Count ns) → n ≡ length ns → Writes b c (number_line n) r → Writes a c (number_line (length ns)) r
counted a b c ns n r nothing is line =
    Writes-then a b c [] (number_line (length ns)) r nothing (subst (λ m. Writes b c (number_line m) r) is line)

pub not_counted : (a b : Option (List ℕ)) (ns text : List ℕ) → AppendsFront a b (spelled Count ns) → AppendsFront a b text
not_counted a b ns text nothing = front_longer a b [] text nothing

-- the header of so many keys, and their bytes, are the key file
pub packed : (ns bytes : List ℕ) (n : ℕ) → n ≡ length ns → bytes ≡ spelled Packed ns → header Second n ++ bytes ≡ spelling Second ns
packed ns bytes n is keys = (λ i. header Second (is i) ++ keys i) ∙ append_assoc (magic Second) (eight_bytes (length ns)) (spelled_keys ns)
