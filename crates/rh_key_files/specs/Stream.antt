-- What is known of a stream of keys: its header, how far it is, and what it answers once it is over.
use Rattle.std.specs.Prelude.{◌≡◌, ℕ, ◌+◌, ◌-◌, ◌<◌, min, List, [], length, Option, Some, None, Result, Ok, Err, IfOk, IsErrOf, ◌==◌, if◌then◌else◌, option_map}
use Rattle.std.specs.Borrow.{GName}
use Rattle.rh_bytes.specs.declared.counted.Counted.{Counted}
use Rattle.rh_key_files.specs.declared.fault.KeyFault.{KeyFault}
use Rattle.rh_key_files.specs.declared.fault.KeyFault.TheVariants.{Read}
use Rattle.rh_key_files.specs.declared.version.Version.{Version}
use Rattle.rh_key_files.specs.declared.header.Header.{Header}
use Rattle.rh_key_files.specs.declared.stream.KeyStream.{KeyStream}
use Rattle.rh_key_files.specs.declared.stream.State.{State}
use Rattle.rh_key_files.specs.declared.stream.State.TheVariants.{Open, Ended, Failed}
use Rattle.rh_bytes.specs.Counting.{failures_of, inner_of}
use Rattle.rh_bytes.specs.Input.{◌>>=◌, fault_of}
use Rattle.rh_bytes.specs.Taking.{TakesAtMost}
use Rattle.rh_key_files.specs.Limits.{batch_bytes, header_bytes}
use Rattle.rh_key_files.specs.Parts.{ReadsList}
use Rattle.rh_key_files.specs.Reading.{CutShort, ReadsKeys, batch_at, front_of, header_at, keys_at, keys_ended}
use Rattle.rh_key_files.specs.Source.{Coming, ComesFrom, HasCount, keys_alone}

-- the reader that the stream took on loan
abbrev pub reader_of : {R : Type 0} → KeyStream R → Counted R
reader_of s = s.reader.now

abbrev pub version_of : {R : Type 0} → KeyStream R → Version
version_of s = s.version

-- the header's number of keys
abbrev pub count_of : {R : Type 0} → KeyStream R → ℕ
count_of s = s.count

-- how many keys were given
abbrev pub taken_of : {R : Type 0} → KeyStream R → ℕ
taken_of s = s.taken

abbrev pub left_of : {R : Type 0} → KeyStream R → ℕ
left_of s = count_of s - taken_of s

abbrev pub state_of : {R : Type 0} → KeyStream R → State
state_of s = s.state

-- the reference that it was lent by
abbrev pub lender_of : {R : Type 0} → KeyStream R → GName
lender_of s = s.reader.ghost_name

-- the header that a stream was made from
abbrev pub header_of : {R : Type 0} → KeyStream R → Header
header_of s = record { version = version_of s; count = count_of s }

-- A fault ends the stream, and so does the 0 where no key is left.
abbrev pub state_after : ℕ → Result ℕ KeyFault → State
state_after left (Ok n) = if left == 0 then Ended else Open
state_after left (Err e) = Failed e

-- what a stream that is over answers
abbrev pub answer_again : State → Result ℕ KeyFault
answer_again Open = Ok 0
answer_again Ended = Ok 0
answer_again (Failed e) = Err e

-- An open stream puts its next keys at the front of the batch. Where none is left, it tests the end.
pub record GivesBatch {R : Type 0} (bytes_of : R → Option (List ℕ)) (old new : KeyStream R) (batch : List ℕ) (r : Result ℕ KeyFault) : Type 0 where
  pub reads : ReadsList bytes_of (reader_of old) (reader_of new) (batch_at (version_of old) (taken_of old) (left_of old) (length batch)) (front_of batch) (batch_bytes (taken_of old) (left_of old) (length batch) (fault_of r)) r
  pub open reads use *
  pub tested : IsErrOf r Read → 0 < left_of old → CutShort (bytes_of (inner_of (reader_of old))) (bytes_of (inner_of (reader_of new))) (batch_at (version_of old) (taken_of old) (left_of old) (length batch))
  pub many : IfOk r (λ n. n ≡ min (length batch) (left_of old))
  pub taken : IfOk r (λ n. taken_of new ≡ taken_of old + n)
  pub goes_on : state_of new ≡ state_after (left_of old) r

-- A stream that is over answers the same again, and leaves its reader and the batch as they are.
pub record StaysOver {R : Type 0} (old new : KeyStream R) (before after : List ℕ) (r : Result ℕ KeyFault) : Type 0 where
  pub again : r ≡ answer_again (state_of old)
  pub still_over : state_of new ≡ state_of old
  pub reads_nothing : reader_of new ≡ reader_of old
  pub same_batch : after ≡ before

abbrev as_ok : Header → Result Header KeyFault
as_ok header = Ok header

abbrev as_err : KeyFault → Result Header KeyFault
as_err e = Err e

-- The header was read as the reader's bytes say, where they are known.
abbrev pub ReadsHeader : {R : Type 0} → (R → Option (List ℕ)) → R → Result (KeyStream R) KeyFault → Type 0
ReadsHeader remaining old (Ok s) = ReadsKeys (remaining old) (remaining (inner_of (reader_of s))) header_at (λ h. h) (as_ok (header_of s))
ReadsHeader remaining old (Err e) = ReadsKeys (remaining old) None header_at (λ h. h) (as_err e)

-- n keys, of which the first has this index, and then the end
abbrev pub keys_to_end : Version → ℕ → ℕ → List ℕ → Result (List ℕ) KeyFault
keys_to_end version index n bytes = keys_alone (keys_at version index n bytes >>= keys_ended)

-- what is to come, of which an open stream would read this
abbrev pub coming_in : State → Coming → Coming
coming_in Open read = read
coming_in Ended read = Some (Ok [])
coming_in (Failed e) read = Some (Err e)

-- the keys that a stream is to give, or the fault that comes before their end, where the bytes are known
abbrev pub coming_of : {R : Type 0} → (R → Option (List ℕ)) → KeyStream R → Coming
coming_of remaining s = coming_in (state_of s) (option_map (keys_to_end (version_of s) (taken_of s) (left_of s)) (remaining (inner_of (reader_of s))))

-- how many keys are to come, where n would be in an open stream
abbrev pub left_in : State → ℕ → ℕ
left_in Open n = n
left_in Ended n = 0
left_in (Failed e) n = 0

-- ---- at the beginning

-- The stream has all keys of these bytes to give, and took no more of them than a header.
pub record IsOpened {R : Type 0} (bytes_of : R → Option (List ℕ)) (old : Counted R) (s : KeyStream R) : Type 0 where
  pub coming : ComesFrom (bytes_of (inner_of old)) (coming_of bytes_of s)
  pub count : HasCount (bytes_of (inner_of old)) (count_of s)
  pub takes : TakesAtMost (bytes_of (inner_of old)) (bytes_of (inner_of (reader_of s))) header_bytes
  pub none_taken : taken_of s ≡ 0
  pub is_open : state_of s ≡ Open
  pub fine : failures_of (reader_of s) ≡ failures_of old
