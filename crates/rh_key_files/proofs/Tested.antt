-- Keys that were taken behind a header: where a failed read or want of memory is told, none of them is out of range.
use Rattle.std.proofs.Common.{◌≡◌, ◌∙◌, refl, sym, ap, subst, ℕ, zero, suc, ◌+◌, ◌-◌, ◌≤◌, List, [], ◌++◌, length, Option, Some, None, Result, Ok, Err, arith, append_assoc, append-nil, length-append}
use Rattle.std.proofs.lemmas.List.{append_cancel_right, nil_from_length}
use Rattle.rh_key_files.specs.declared.version.Version.{Version}
use Rattle.rh_key_files.specs.declared.version.Version.TheVariants.{First, Second}
use Rattle.rh_key_files.specs.declared.fault.KeyFault.{KeyFault}
use Rattle.rh_key_files.specs.declared.fault.KeyFault.TheVariants.{NotKeys, Short}
use Rattle.rh_key_files.specs.declared.header.Header.{Header}
use Rattle.rh_bytes.specs.Input.{◌>>=◌, always, eight_bytes, number_at, many_at}
use Rattle.rh_bytes.specs.Taking.{TakesAtMost}
use Rattle.rh_bytes.proofs.Parsed.{number_read, same_rest, same_value, then_ok}
use Rattle.rh_bytes.proofs.Reading.{with_front}
use Rattle.rh_bytes.proofs.Taking.{takes_fewer}
use Rattle.rh_key_files.specs.KeyFile.{magic, spelled_keys}
use Rattle.rh_key_files.specs.Limits.{header_bytes, header_taken, magic_bytes}
use Rattle.rh_key_files.specs.Reading.{CutShort, IsGood, ReadsKeys, TakesGoodKeys, header_at, header_behind, keys_at, long_header_at, version_at, with_count, key_at}
use Rattle.rh_bytes.proofs.Many.{and_next, many_at-add}
use Rattle.rh_key_files.proofs.Filled.{no_key}
use Rattle.rh_key_files.proofs.Grammar.{header_read, keys_given, keys_read, version_read}

-- ---- good keys

nothing_good : (version : Version) (index n : ℕ) → IsGood (keys_at version index n [])
unfolding many_at
nothing_good version index zero = tt
nothing_good version index (suc n) = subst IsGood (sym (no_key version index (suc n) [] (omega arith) (omega arith))) tt

good_then : (front : List ℕ) (r : Result (List ℕ × List ℕ) KeyFault) → IsGood r → IsGood (r >>= with_front front)
good_then front (Ok p) good = tt
good_then front (Err Short) good = tt
good_then front (Err e) good = absurd good

-- keys that were read, before more of them
front_good : (version : Version) (done more : ℕ) (front : List ℕ) → keys_at version 0 done (spelled_keys front ++ []) ≡ Ok (front, []) → IsGood (keys_at version 0 (done + more) (spelled_keys front ++ []))
front_good version done more front first =
    subst IsGood (sym (many_at-add (key_at version) 0 done more (spelled_keys front ++ []) ∙ ap (λ (r : Result (List ℕ × List ℕ) KeyFault). r >>= and_next (key_at version) (0 + done) more) first))
    (good_then front (keys_at version (0 + done) more []) (nothing_good version (0 + done) more))

-- ---- how long a header is

number_long : (bytes : List ℕ) (p : ℕ × List ℕ) → number_at Short bytes ≡ Ok p → length bytes ≡ 8 + length p.1
number_long bytes p h = omega (arith, ap length (number_read Short bytes p h), length-append (eight_bytes p.0) p.1)

magic_long : (version : Version) → length (magic version) ≡ 4
magic_long First = refl
magic_long Second = refl

pub header_long : (bytes : List ℕ) (p : Header × List ℕ) → header_at bytes ≡ Ok p → length bytes ≡ header_bytes + length p.1
header_long bytes p h =
    let front = magic p.0.version in
    let rest = eight_bytes p.0.count ++ p.1 in
    omega (arith, ap length (header_read bytes p h).0, length-append front rest, length-append (eight_bytes p.0.count) p.1, magic_long p.0.version)

pub behind_long : (version : Version) (bytes : List ℕ) (p : Header × List ℕ) → header_behind version bytes ≡ Ok p → length bytes ≡ 8 + length p.1
behind_long version bytes p h =
    let s = then_ok (number_at Short bytes) (with_count version) p h in
    number_long bytes s.0 s.1 ∙ ap (λ (l : List ℕ). 8 + length l) (same_rest (record { version = version; count = s.0.0 }, s.0.1) p s.2)

pub long_header_long : (bytes : List ℕ) (p : Header × List ℕ) → long_header_at bytes ≡ Ok p → length bytes ≡ header_bytes + length p.1
unfolding long_header_at
long_header_long bytes p h =
    let s = then_ok (version_at bytes) (λ begun. header_behind begun.0 begun.1) p h in
    let later = behind_long s.0.0 s.0.1 p s.2 in
    omega (arith, ap length (version_read bytes s.0 s.1), length-append (magic s.0.0) s.0.1, magic_long s.0.0, later)

header_within : (fault : Option KeyFault) → header_taken fault ≤ header_bytes
header_within None = omega arith
header_within (Some NotKeys) = omega arith
header_within (Some e) = omega arith

pub within_header : (a b : Option (List ℕ)) (fault : Option KeyFault) → TakesAtMost a b (header_taken fault) → TakesAtMost a b header_bytes
within_header a b fault t = takes_fewer a b (header_taken fault) header_bytes t (header_within fault)

pub within_magic : (a b : Option (List ℕ)) → TakesAtMost a b magic_bytes → TakesAtMost a b header_bytes
within_magic a b t = takes_fewer a b magic_bytes header_bytes t (omega arith)

-- ---- what was taken behind a header

none_behind : (taken cut rest : List ℕ) (n : ℕ) → length taken ≤ n → length (taken ++ rest) ≡ n + length (cut ++ rest) → cut ≡ []
none_behind taken cut rest n few long = nil_from_length cut (omega (arith, length-append taken rest, length-append cut rest, few, long))

module _ (header_in : List ℕ → Result (Header × List ℕ) KeyFault) where
  -- nothing, where no more bytes were taken than a header has
  pub good_in_header : (n : ℕ) (a b : Option (List ℕ)) → ((bytes : List ℕ) (p : Header × List ℕ) → header_in bytes ≡ Ok p → length bytes ≡ n + length p.1) → TakesAtMost a b n → TakesGoodKeys header_in a b
  good_in_header n None b long t = tt
  good_in_header n (Some x) None long t = t.consumed
  good_in_header n (Some x) (Some y) long t = λ header taken is.
      let none : taken ≡ [] = none_behind t.taken taken y n t.few (ap length (sym t.consumed) ∙ long x (header, taken ++ y) is) in
      subst (λ l. IsGood (keys_at header.version 0 header.count l)) (sym none) (nothing_good header.version 0 header.count)

  abbrev HeaderRead : (a b : Option (List ℕ)) → Header → Type 0
  HeaderRead a b header = ReadsKeys a b header_in (λ (h : Header). h) (Ok header)

  -- the bytes behind the header that was read
  these_taken : (x y z cut : List ℕ) (header : Header) → header_in x ≡ Ok (header, y) → y ≡ cut ++ z → IsGood (keys_at header.version 0 header.count cut) → TakesGoodKeys header_in (Some x) (Some z)
  these_taken x y z cut header read parts good = λ other taken is.
      let read_too = sym read ∙ is in
      let same : header ≡ other = same_value (header, y) (other, taken ++ z) read_too in
      let bytes : cut ≡ taken = append_cancel_right cut taken z (sym parts ∙ same_rest (header, y) (other, taken ++ z) read_too) in
      subst (λ l. IsGood (keys_at other.version 0 other.count l)) bytes (subst (λ (h : Header). IsGood (keys_at h.version 0 h.count cut)) same good)

  pub good_cut : (a b c : Option (List ℕ)) (header : Header) → HeaderRead a b header → CutShort b c (keys_at header.version 0 header.count) → TakesGoodKeys header_in a c
  good_cut None b c header read cut = tt
  good_cut (Some x) None c header read cut = absurd read
  good_cut (Some x) (Some y) None header read cut = absurd cut
  good_cut (Some x) (Some y) (Some z) header read (taken, parts, early) = these_taken x y z taken header read parts (subst IsGood (sym early) tt)

  -- keys that were read, and none behind them
  pub good_front : (a b c : Option (List ℕ)) (header : Header) (done : ℕ) (front : List ℕ) → HeaderRead a b header → done ≤ header.count → ReadsKeys b c (keys_at header.version 0 done) (always {X = Unit {0}} front) (Ok tt) → TakesGoodKeys header_in a c
  good_front None b c header done front read within keys = tt
  good_front (Some x) None c header done front read within keys = absurd read
  good_front (Some x) (Some y) None header done front read within keys = absurd keys
  good_front (Some x) (Some y) (Some z) header done front read within keys =
      let spells = keys_read header.version 0 done y (front, z) keys in
      let first : keys_at header.version 0 done (spelled_keys front ++ []) ≡ Ok (front, []) = ap (λ n. keys_at header.version 0 n (spelled_keys front ++ [])) (sym spells.many) ∙ keys_given header.version 0 front [] spells.fit in
      let all : done + (header.count - done) ≡ header.count = omega arith in
      these_taken x y z (spelled_keys front ++ []) header read (spells.whole ∙ ap (λ l. l ++ z) (sym (append-nil (spelled_keys front))))
      (subst (λ n. IsGood (keys_at header.version 0 n (spelled_keys front ++ []))) all (front_good header.version done (header.count - done) front first))

  -- all keys, and what was taken behind them
  pub good_whole : (a b c d : Option (List ℕ)) (header : Header) (n : ℕ) (front : List ℕ) → HeaderRead a b header → ReadsKeys b c (keys_at header.version 0 header.count) (always {X = Unit {0}} front) (Ok tt) → TakesAtMost c d n → TakesGoodKeys header_in a d
  good_whole None b c d header n front read keys t = tt
  good_whole (Some x) None c d header n front read keys t = absurd read
  good_whole (Some x) (Some y) None d header n front read keys t = absurd keys
  good_whole (Some x) (Some y) (Some z) None header n front read keys t = absurd t.consumed
  good_whole (Some x) (Some y) (Some z) (Some w) header n front read keys t =
      let spells = keys_read header.version 0 header.count y (front, z) keys in
      let whole : keys_at header.version 0 header.count (spelled_keys front ++ t.taken) ≡ Ok (front, t.taken) =
      ap (λ n. keys_at header.version 0 n (spelled_keys front ++ t.taken)) (sym spells.many) ∙ keys_given header.version 0 front t.taken spells.fit in
      these_taken x y w (spelled_keys front ++ t.taken) header read (spells.whole ∙ ap (λ l. spelled_keys front ++ l) t.consumed ∙ sym (append_assoc (spelled_keys front) t.taken w)) (subst IsGood (sym whole) tt)

  pub good_moved : (a b d : Option (List ℕ)) → d ≡ b → TakesGoodKeys header_in a b → TakesGoodKeys header_in a d
  good_moved a b d is good = subst (TakesGoodKeys header_in a) (sym is) good

-- ---- a number behind the magic, as a header

pub header_of : (version : Version) (a b : Option (List ℕ)) (n : ℕ) → ReadsKeys a b (number_at Short) (λ (n : ℕ). n) (Ok n) → ReadsKeys a b (header_behind version) (λ (h : Header). h) (Ok (record { version = version; count = n }))
header_of version None b n read = tt
header_of version (Some x) None n read = absurd read
header_of version (Some x) (Some y) n read = ap (λ r. r >>= with_count version) read

-- and the magic before it
pub good_behind : (a b c : Option (List ℕ)) (version : Version) → ReadsKeys a b version_at (λ (v : Version). v) (Ok version) → TakesGoodKeys (header_behind version) b c → TakesGoodKeys long_header_at a c
unfolding long_header_at
good_behind None b c version magic good = tt
good_behind (Some x) None c version magic good = absurd magic
good_behind (Some x) (Some y) None version magic good = good
good_behind (Some x) (Some y) (Some z) version magic good = λ header taken is. good header taken (sym (ap (λ r. r >>= (λ begun. header_behind begun.0 begun.1)) magic) ∙ is)

-- as many keys as the header said
pub as_many_cut : (version : Version) (m n : ℕ) (a b : Option (List ℕ)) → m ≡ n → CutShort a b (keys_at version 0 m) → CutShort a b (keys_at version 0 n)
as_many_cut version m n a b is h = subst (λ k. CutShort a b (keys_at version 0 k)) is h
