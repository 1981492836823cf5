-- What is known of the reader and the writer that fail once.
use Rattle.std.specs.Prelude.{◌≡◌, ℕ, List, Option, Result, Ok, IsErr}
use Rattle.std.specs.Io.Cursor.{cursor_remaining}
use Rattle.rh_faulty.specs.declared.reader.FaultyReader.{FaultyReader}
use Rattle.rh_faulty.specs.declared.writer.FaultyWriter.{FaultyWriter}
use Rattle.rh_faulty.specs.declared.writer.Refusal.{Refusal}
use Rattle.rh_faulty.specs.declared.writer.Refusal.TheVariants as refusals

-- the bytes that were not read yet, as far as the bytes are known
abbrev pub unread_of : {T : Type 0} → (T → Option (List ℕ)) → FaultyReader T → Option (List ℕ)
unread_of bytes r = cursor_remaining bytes r.bytes

-- at 1 the next call fails; at 0 none does any more
abbrev pub fails_in : {T : Type 0} → FaultyReader T → ℕ
fails_in r = r.fails_in

-- the bytes that were written
abbrev pub text_of : FaultyWriter → List ℕ
text_of w = w.text.items

-- at 1 the next write is refused; at 0 none is any more
abbrev pub refuses_in : FaultyWriter → ℕ
refuses_in w = w.refuses_in

abbrev pub refusal_of : FaultyWriter → Refusal
refusal_of w = w.refusal

-- a write was refused in this way
abbrev pub Refuses : {E : Type 0} → Refusal → Result ℕ E → Type 0
Refuses refusals.Error r = IsErr r
Refuses refusals.TakesNothing r = r ≡ Ok 0
