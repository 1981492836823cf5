-- Numbers as they are written.
use Rattle.std.specs.Prelude.{ℕ, List, []}
use Rattle.rh_combine.specs.declared.form.Form.{Form}
use Rattle.rh_combine.specs.declared.form.Form.TheVariants.{Lines, Count, Packed}
use Rattle.rh_key_files.specs.KeyFile.{spelled_keys}
use Rattle.rh_numbers.specs.Writing.{text_of}

-- the numbers one after the other: where they are counted nothing of them, and of a key file what stands behind its header
abbrev pub spelled : Form → List ℕ → List ℕ
spelled Lines numbers = text_of numbers
spelled Count numbers = []
spelled Packed numbers = spelled_keys numbers
