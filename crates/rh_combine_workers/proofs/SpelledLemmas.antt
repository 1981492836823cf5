-- Numbers as they are written, of two lists.
use Rattle.std.proofs.Common.{◌≡◌, ℕ, List, [], ◌++◌, refl}
use Rattle.std.proofs.lemmas.List.Concat.{flat_map-append}
use Rattle.rh_bytes.specs.Input.{eight_bytes}
use Rattle.rh_combine.specs.declared.form.Form.{Form}
use Rattle.rh_combine.specs.declared.form.Form.TheVariants.{Lines, Count, Packed}
use Rattle.rh_numbers.specs.Writing.{number_line}
use Rattle.rh_combine_workers.specs.Spelled.{spelled}

pub spelled-none : (form : Form) → spelled form [] ≡ []
spelled-none Lines = refl
spelled-none Count = refl
spelled-none Packed = refl

pub spelled-append : (form : Form) (xs ys : List ℕ) → spelled form (xs ++ ys) ≡ spelled form xs ++ spelled form ys
spelled-append Lines xs ys = flat_map-append number_line xs ys
spelled-append Count xs ys = refl
spelled-append Packed xs ys = flat_map-append eight_bytes xs ys
