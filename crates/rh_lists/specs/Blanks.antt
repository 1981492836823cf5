-- A list whose first lines are passed by.
use Rattle.std.specs.Prelude.{ℕ, zero, suc, ◌==◌, if◌then◌else◌, List, [], ◌∷◌, Result, Ok, Err}
use Rattle.rh_key_files.specs.declared.fault.KeyFault.{KeyFault}
use Rattle.rh_key_files.specs.declared.version.Version.{Version}
use Rattle.rh_key_files.specs.Reading.{version_at}

-- the text with spaces in place of its first lines, so that they say nothing and count as lines
abbrev pub blanked : (lines : ℕ) (text : List ℕ) → List ℕ
blanked zero text = text
blanked (suc lines) [] = []
blanked (suc lines) (b ∷ text) = if b == 10 then 10 ∷ blanked lines text else 32 ∷ blanked (suc lines) text

-- a key file has no lines
abbrev pub blanked_text : (lines : ℕ) (bytes : List ℕ) → Result (Version × List ℕ) KeyFault → List ℕ
blanked_text lines bytes (Ok begun) = bytes
blanked_text lines bytes (Err other) = blanked lines bytes

-- what a list says of which so many lines are passed by: what it says with these lines blank, and a key file all that it says
abbrev pub skipping : (lines : ℕ) (bytes : List ℕ) → List ℕ
skipping lines bytes = blanked_text lines bytes (version_at bytes)
