-- Packing and listing, one after the other.
use Rattle.std.proofs.Common.{◌≡◌, ℕ, ◌<◌, ◌^◌, arith, length, List, [], Option, Some, None, Result, Ok, Err, sym, ap, subst, ◌∙◌}
use Rattle.std.specs.Prelude.{All}
use Rattle.rh_layout.specs.Key.{IsKey}
use Rattle.rh_key_files.specs.declared.fault.KeyFault.{KeyFault}
use Rattle.rh_key_files.specs.declared.version.Version.TheVariants.{Second}
use Rattle.rh_key_files.specs.KeyFile.{IsKeyIn, IsLongKeyFile, KeyFile, LongKeyFile, spelling}
use Rattle.rh_key_files.specs.Reading as files
use Rattle.rh_key_files.proofs.Grammar.{long_given, no_more_keys}
use Rattle.rh_numbers.specs.declared.fault.TextFault.{TextFault}
use Rattle.rh_numbers.specs.Grammar.{IsKeyText}
use Rattle.rh_numbers.specs.Reading as numbers
use Rattle.rh_numbers.specs.Writing.{text_of}
use Rattle.rh_numbers.proofs.Spelling.{text_given, text_written}
use Rattle.rh_key_texts.specs.Pack.{Packs, packed}
use Rattle.rh_key_texts.specs.List.{Lists, listed}

abbrev read_to : List ℕ → Result (List ℕ) TextFault
read_to keys = Ok keys

abbrev file_of : List ℕ → Result (List ℕ × List ℕ) KeyFault
file_of keys = Ok (keys, [])

same_text : (xs ys : List ℕ) → read_to xs ≡ Ok ys → xs ≡ ys
same_text xs ys h = cc

same_file : (xs ys : List ℕ) → file_of xs ≡ Ok (ys, []) → xs ≡ ys
same_file xs ys h = ap (λ r. elim r [ Ok p ↦ p.0 | Err e ↦ xs ]) h

-- a text has one list of keys, and so has a key file
one_text : (text keys others : List ℕ) → IsKeyText text keys → IsKeyText text others → keys ≡ others
one_text text keys others a b = same_text keys others (sym (text_given text keys a) ∙ text_given text others b)

one_file : (file keys others : List ℕ) → length file < 2 ^ 64 → IsLongKeyFile file keys → IsLongKeyFile file others → keys ≡ others
one_file file keys others small a b =
    let fits_keys : length keys < 2 ^ 64 = omega (arith, no_more_keys a.0 file keys a.1, small) in
    let fits_others : length others < 2 ^ 64 = omega (arith, no_more_keys b.0 file others b.1, small) in
    same_file keys others (sym (long_given a.0 file keys fits_keys a.1) ∙ long_given b.0 file others fits_others b.1)

-- keys are keys in the second version
in_second : (keys : List ℕ) → All IsKey keys → All (IsKeyIn Second) keys
in_second keys fit = λ k d less. (omega arith, fit k d less)

key_file : (file keys : List ℕ) → file ≡ spelling Second keys → (text : List ℕ) → IsKeyText text keys → IsLongKeyFile file keys
key_file file keys is text t = (Second, record { spelled = is; in_range = in_second keys t.in_range })

-- what is read, where the bytes are known
from_text : (text keys : List ℕ) (left : Option (List ℕ)) → numbers.IsTextReadFrom (Some text) left keys → IsKeyText text keys
from_text text keys None h = absurd h
from_text text keys (Some rest) h = h.0

from_file : (file keys : List ℕ) (left : Option (List ℕ)) → files.IsLongReadFrom (Some file) left keys → IsLongKeyFile file keys
from_file file keys None h = absurd h
from_file file keys (Some rest) h = h.0

pub listed_after : (text file again keys : List ℕ) → length file < 2 ^ 64 → (left rest : Option (List ℕ)) → IsKeyText text keys → Packs (Some text) left (Some []) (Some file) packed → Lists (Some file) rest (Some []) (Some again) listed
    → (again ≡ text_of keys) × IsKeyText again keys
listed_after text file again keys small left rest t p l =
    let first : p.0 ≡ keys = one_text text p.0 keys (from_text text p.0 left p.1) t in
    let whole : IsLongKeyFile file keys = key_file file keys (subst (λ k. file ≡ spelling Second k) first p.2) text t in
    let second : l.0 ≡ keys = one_file file l.0 keys small (from_file file l.0 rest l.1) whole in
    let is : again ≡ text_of keys = subst (λ k. again ≡ text_of k) second l.2 in
    (is, subst (λ a. IsKeyText a keys) (sym is) (text_written keys t.few t.in_range))

all_keys : (keys : List ℕ) → All (IsKeyIn Second) keys → All IsKey keys
all_keys keys fit = λ k d less. (fit k d less).1

pub packed_after : (file text again keys : List ℕ) → length file < 2 ^ 64 → (left rest : Option (List ℕ)) → KeyFile Second file keys → Lists (Some file) left (Some []) (Some text) listed → Packs (Some text) rest (Some []) (Some again) packed
    → again ≡ file
packed_after file text again keys small left rest f l p =
    let whole : LongKeyFile Second file keys = record { spelled = f.spelled; in_range = f.in_range } in
    let first : l.0 ≡ keys = one_file file l.0 keys small (from_file file l.0 left l.1) (Second, whole) in
    let is : text ≡ text_of keys = subst (λ k. text ≡ text_of k) first l.2 in
    let t : IsKeyText text keys = subst (λ a. IsKeyText a keys) (sym is) (text_written keys f.few (all_keys keys f.in_range)) in
    let second : p.0 ≡ keys = one_text text p.0 keys (from_text text p.0 rest p.1) t in
    subst (λ k. again ≡ spelling Second k) second p.2 ∙ sym f.spelled
