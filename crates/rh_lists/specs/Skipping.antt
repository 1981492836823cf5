-- The reader of a list whose first lines are passed by.
use Rattle.std.specs.Prelude.{◌≡◌, ◌⊎◌, ℕ, ◌++◌, Bool, true, false, List, drop, take, Option, option_map}
use Rattle.std.specs.Io.KnownBytes.{IsAtEnd}
use Rattle.rh_bytes.specs.Counting.{inner_of}
use Rattle.rh_lists.specs.declared.skipping.Skipping.{Skipping}
use Rattle.rh_lists.specs.declared.skipping.TheConstants.{MAGIC_BYTES}
use Rattle.rh_lists.specs.Blanks.{blanked, skipping}

abbrev pub skipped_of : {R : Type 0} → Skipping R → R
skipped_of s = inner_of s.inner

-- the bytes that it has read and not given
abbrev pub held_of : {R : Type 0} → Skipping R → List ℕ
held_of s = drop s.given (take s.held s.front)

-- what is given where these bytes are held and those are still to be read: it is known what they are once four of them were seen
abbrev pub given_with : (known : Bool) → (held : List ℕ) → (lines : ℕ) → (bytes : List ℕ) → List ℕ
given_with true held lines bytes = held ++ blanked lines bytes
given_with false held lines bytes = skipping lines (held ++ bytes)

abbrev pub left_of : {R : Type 0} → (remaining : R → Option (List ℕ)) → Skipping R → Option (List ℕ)
left_of remaining s = option_map (given_with s.is_known (held_of s) s.lines) (remaining (skipped_of s))

-- Its first bytes were read: four of them, or all there are.
abbrev pub IsFull : {R : Type 0} → (remaining : R → Option (List ℕ)) → Skipping R → Type 0
IsFull remaining s = (s.held ≡ MAGIC_BYTES) ⊎ IsAtEnd (remaining (skipped_of s))
