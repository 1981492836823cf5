-- What the packing of a text of numbers writes, and why it writes nothing.
use Rattle.std.specs.Prelude.{ℕ, List, Option, Some, None, Result, Ok, Err}
use Rattle.std.specs.Io.KnownBytes.{Appends}
use Rattle.rh_key_files.specs.declared.version.Version.TheVariants.{Second}
use Rattle.rh_bytes.specs.Counting.{AppendsFront}
use Rattle.rh_key_files.specs.KeyFile.{spelling}
use Rattle.rh_numbers.specs.declared.fault.TextFault.{TextFault}
use Rattle.rh_numbers.specs.Reading.{TextFails, IsTextReadFrom}
use Rattle.rh_key_texts.specs.declared.packing.PackFault.{PackFault}
use Rattle.rh_key_texts.specs.declared.packing.PackFault.TheVariants.{Text, Write}

-- Known bytes are no text of keys, and this is the first fault in them.
abbrev pub IsFirstTextFault : Option (List ℕ) → TextFault → Type 0
IsFirstTextFault None fault = Unit {0}
IsFirstTextFault (Some bytes) fault = TextFails fault bytes

-- The bytes were a text of keys, and the key file of these, or a front of it, was written; or they were none.
abbrev pub Packs : {X : Type 0} → (bytes left old new : Option (List ℕ)) → Result X PackFault → Type 0
Packs bytes left old new (Ok x) = (keys : List ℕ) × IsTextReadFrom bytes left keys × Appends old new (spelling Second keys)
Packs bytes left old new (Err Write) = (keys : List ℕ) × IsTextReadFrom bytes left keys × AppendsFront old new (spelling Second keys)
Packs bytes left old new (Err (Text fault)) = IsFirstTextFault bytes fault

-- the fault that was found in the text, if one was
abbrev pub fault_in_text : {X : Type 0} → Result X PackFault → Option TextFault
fault_in_text (Err (Text fault)) = Some fault
fault_in_text r = None

-- the answer where all went well
abbrev pub packed : Result (Unit {0}) PackFault
packed = Ok tt
