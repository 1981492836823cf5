-- A whole key file, read by its header or by the number behind its magic, its keys and its end.
use Rattle.std.proofs.Common.{◌≡◌, ℕ, List, [], Option, Result, Ok, Err, refl, subst}
use Rattle.rh_key_files.specs.declared.version.Version.{Version}
use Rattle.rh_key_files.specs.declared.fault.KeyFault.{KeyFault}
use Rattle.rh_key_files.specs.declared.fault.KeyFault.TheVariants.{Long, Short}
use Rattle.rh_key_files.specs.declared.header.Header.{Header}
use Rattle.rh_bytes.specs.Input.{◌>>=◌, always, end_at, number_at}
use Rattle.rh_key_files.specs.Reading.{ReadsKeys, header_at, keys_at, after_header, keys_behind, keys_ended, file_keys, is_silent}
use Rattle.rh_bytes.proofs.Reading.{Reads-fails, Reads-ok, Reads-then}

-- as many keys as the header said
pub as_many : {X : Type 0} (version : Version) (m n : ℕ) (a b : Option (List ℕ)) (v : X → List ℕ) (r : Result X KeyFault) → m ≡ n → ReadsKeys a b (keys_at version 0 m) v r → ReadsKeys a b (keys_at version 0 n) v r
as_many version m n a b v r e h = subst (λ k. ReadsKeys a b (keys_at version 0 k) v r) e h

-- ---- so many keys, and then the end

module _ {X : Type 0} (view : X → List ℕ) (version : Version) (n : ℕ) where
  abbrev pub KeysAndEnd : (b d : Option (List ℕ)) → Result X KeyFault → Type 0
  KeysAndEnd b d r = ReadsKeys b d (λ bytes. keys_at version 0 n bytes >>= keys_ended) view r

  pub keys_stop : (b c d : Option (List ℕ)) (w : Unit {0} → List ℕ) (e : KeyFault) → ReadsKeys b c (keys_at version 0 n) w (Err e) → KeysAndEnd b d (Err e)
  keys_stop b c d w e p = Reads-fails is_silent b c d (keys_at version 0 n) keys_ended w view e p

  module _ (b c d : Option (List ℕ)) (keys : List ℕ) (read : ReadsKeys b c (keys_at version 0 n) (always {X = Unit {0}} keys) (Ok tt)) where
    abbrev ended : List ℕ × List ℕ → Result (List ℕ × List ℕ) KeyFault
    ended end = Ok (keys, end.1)

    behind_keys : (r : Result X KeyFault) → ReadsKeys c d (λ bytes. keys_ended (keys, bytes)) view r → KeysAndEnd b d r
    behind_keys r p = Reads-then is_silent b c d (keys_at version 0 n) keys_ended (always {X = Unit {0}} keys) view tt r read p

    pub end_stops : (last : Option (List ℕ)) (w : Unit {0} → List ℕ) (e : KeyFault) → ReadsKeys c last (end_at Long) w (Err e) → KeysAndEnd b d (Err e)
    end_stops last w e p = behind_keys (Err e) (Reads-fails is_silent c last d (end_at Long) ended w view e p)

    pub all_read : (v : X) → view v ≡ keys → ReadsKeys c d (end_at Long) (always {X = Unit {0}} []) (Ok tt) → KeysAndEnd b d (Ok v)
    all_read v is p = behind_keys (Ok v) (Reads-then is_silent c d d (end_at Long) ended (always {X = Unit {0}} []) view tt (Ok v) p (Reads-ok is_silent d (λ bytes. ended ([], bytes)) view v (λ bytes. rw is refl)))

  -- behind a header
  pub behind_header : (a b d : Option (List ℕ)) (r : Result X KeyFault) → ReadsKeys a b header_at (λ (h : Header). h) (Ok (record { version = version; count = n })) → KeysAndEnd b d r → ReadsKeys a d file_keys view r
  unfolding file_keys
  behind_header a b d r p q = Reads-then is_silent a b d header_at after_header (λ (h : Header). h) view (record { version = version; count = n }) r p q

  -- behind the number of keys, which the magic was read before
  pub behind_number : (a b d : Option (List ℕ)) (r : Result X KeyFault) → ReadsKeys a b (number_at Short) (λ (n : ℕ). n) (Ok n) → KeysAndEnd b d r → ReadsKeys a d (keys_behind version) view r
  unfolding keys_behind
  behind_number a b d r p q = Reads-then is_silent a b d (number_at Short) (λ count. keys_at version 0 count.0 count.1 >>= keys_ended) (λ (n : ℕ). n) view n r p q

pub header_faults : {X : Type 0} (view : X → List ℕ) (a b d : Option (List ℕ)) (e : KeyFault) → ReadsKeys a b header_at (λ (h : Header). h) (Err e) → ReadsKeys a d file_keys view (Err e)
unfolding file_keys
header_faults view a b d e p = Reads-fails is_silent a b d header_at after_header (λ (h : Header). h) view e p

pub number_faults : {X : Type 0} (view : X → List ℕ) (version : Version) (a b d : Option (List ℕ)) (e : KeyFault) → ReadsKeys a b (number_at Short) (λ (n : ℕ). n) (Err e) → ReadsKeys a d (keys_behind version) view (Err e)
unfolding keys_behind
number_faults view version a b d e p = Reads-fails is_silent a b d (number_at Short) (λ count. keys_at version 0 count.0 count.1 >>= keys_ended) (λ (n : ℕ). n) view e p
