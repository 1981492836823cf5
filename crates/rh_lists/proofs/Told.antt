-- What the first four bytes tell of a list.
use Rattle.std.proofs.Common.{◌≡◌, ℕ, ◌<◌, List, [], ◌++◌, length, Option, Some, None, Result, Ok, Err, inl, inr, refl, sym, ap, subst, ◌∙◌, arith, append-nil}
use Rattle.std.proofs.lemmas.Bool.{cases_Bool}
use Rattle.std.specs.Io.KnownBytes.{Consumes, IsAtEnd}
use Rattle.rh_bytes.specs.Input.{◌>>=◌, Fails, bytes_at}
use Rattle.rh_bytes.proofs.Spelled.{begins_not}
use Rattle.rh_key_files.specs.declared.fault.KeyFault.{KeyFault}
use Rattle.rh_key_files.specs.declared.fault.KeyFault.TheVariants as faults
use Rattle.rh_key_files.specs.declared.version.Version.{Version}
use Rattle.rh_key_files.specs.Reading as files
use Rattle.rh_key_files.specs.Reading.{KeysFail, ReadsKeys, keys_behind, long_file_keys, version_at}
use Rattle.rh_numbers.specs.declared.fault.TextFault.{TextFault}
use Rattle.rh_numbers.specs.Reading.{Said, text_said}
use Rattle.rh_lists.specs.declared.fault.ListFault.TheVariants.{Text, Keys}
use Rattle.rh_cutting.specs.declared.list.KeyList.{KeyList}
use Rattle.rh_cutting.specs.Pieces.{keys_in}
use Rattle.rh_lists.specs.Lists.{ReadsKeyList, file_or_text, is_list_silent, is_text_silent, list_said, of_file, of_text}
use Rattle.rh_lists.specs.Parts.{ReadsTextList, Refuses}

pub few_bytes : (bytes : List ℕ) → length bytes < 4 → version_at bytes ≡ Err faults.Short
unfolding version_at bytes_at
few_bytes bytes few = rw (begins_not 4 bytes few) refl

-- ---- a text

refused : (said : Said) (fault : TextFault) → Refuses said fault → Fails is_list_silent (Text fault) (of_text said)
refused said fault h = elim (cases_Bool (is_text_silent fault)) [ inl quiet ↦ rw quiet tt | inr says ↦ rw says (the_fault said fault (rw says at h)) ]
  where
    the_fault : (said : Said) (fault : TextFault) → said.1 ≡ Some fault → of_text said ≡ Err (Text fault)
    the_fault (keys, None) fault h = absurd cc
    the_fault (keys, Some other) fault h = let same : other ≡ fault = cc in ap (λ e. Err (Text e)) same

module _ (bytes : List ℕ) (is : list_said bytes ≡ of_text (text_said bytes)) where
  text_ok : (rest : List ℕ) (keys : KeyList) → rest ≡ [] → text_said bytes ≡ (keys_in keys, None) → ReadsKeyList (Some bytes) (Some rest) (Ok keys)
  text_ok rest keys none said = is ∙ ap of_text said ∙ ap (λ (l : List ℕ). Ok (keys_in keys, l)) (sym none)

  text_fails : (left : Option (List ℕ)) (fault : TextFault) → Refuses (text_said bytes) fault → ReadsKeyList (Some bytes) left (Err (Text fault))
  text_fails left fault h = subst (Fails is_list_silent (Text fault)) (sym is) (refused (text_said bytes) fault h)

-- fewer than four bytes
module _ (bytes : List ℕ) (few : length bytes < 4) where
  all_of_it : (xs ys : List ℕ) → xs ≡ bytes ++ ys → ys ≡ [] → xs ≡ bytes
  all_of_it xs ys taken end = taken ∙ ap (λ l. bytes ++ l) end ∙ append-nil bytes

  no_file : (xs : List ℕ) → xs ≡ bytes → list_said xs ≡ of_text (text_said xs)
  no_file xs same = ap (file_or_text xs) (few_bytes xs (omega (arith, ap length same, few)))

  pub short_ok : (a b : Option (List ℕ)) (keys : KeyList) → Consumes a b bytes → IsAtEnd b → text_said bytes ≡ (keys_in keys, None) → ReadsKeyList a b (Ok keys)
  short_ok None b keys taken end said = tt
  short_ok (Some xs) None keys taken end said = absurd taken
  short_ok (Some xs) (Some ys) keys taken end said =
      let same = all_of_it xs ys taken end in
      text_ok xs (no_file xs same) ys keys end (ap text_said same ∙ said)

  pub short_fails : (a b : Option (List ℕ)) (fault : TextFault) → Consumes a b bytes → IsAtEnd b → Refuses (text_said bytes) fault → ReadsKeyList a b (Err (Text fault))
  short_fails None b fault taken end said = tt
  short_fails (Some xs) None fault taken end said = absurd taken
  short_fails (Some xs) (Some ys) fault taken end said =
      let same = all_of_it xs ys taken end in
      text_fails xs (no_file xs same) (Some ys) fault (subst (λ l. Refuses (text_said l) fault) (sym same) said)

-- four bytes, and what comes behind them
module _ (four : List ℕ) where
  module _ (none : (rest : List ℕ) → (fault : KeyFault) × (version_at (four ++ rest) ≡ Err fault)) where
    is_text : (xs ys : List ℕ) → xs ≡ four ++ ys → list_said xs ≡ of_text (text_said xs)
    is_text xs ys taken = ap (file_or_text xs) (ap version_at taken ∙ (none ys).1)

    pub long_ok : (a b c : Option (List ℕ)) (keys : KeyList) → Consumes a b four → ReadsTextList four b c (Ok keys) → ReadsKeyList a c (Ok keys)
    long_ok None b c keys taken read = tt
    long_ok (Some xs) None c keys taken read = absurd taken
    long_ok (Some xs) (Some ys) None keys taken read = absurd read
    long_ok (Some xs) (Some ys) (Some zs) keys taken read = text_ok xs (is_text xs ys taken) zs keys read.1 (ap text_said taken ∙ read.0)

    pub long_fails : (a b c : Option (List ℕ)) (fault : TextFault) → Consumes a b four → ReadsTextList four b c (Err fault) → ReadsKeyList a c (Err (Text fault))
    long_fails None b c fault taken read = tt
    long_fails (Some xs) None c fault taken read = absurd taken
    long_fails (Some xs) (Some ys) c fault taken read = text_fails xs (is_text xs ys taken) c fault (subst (λ l. Refuses (text_said l) fault) (sym taken) read)

  pub magic_read : (version : Version) → ((rest : List ℕ) → version_at (four ++ rest) ≡ Ok (version, rest)) → (a b : Option (List ℕ)) → Consumes a b four → ReadsKeys a b version_at (λ (v : Version). v) (Ok version)
  magic_read version some None b taken = tt
  magic_read version some (Some xs) None taken = absurd taken
  magic_read version some (Some xs) (Some ys) taken = ap version_at taken ∙ some ys

  module _ (version : Version) (some : (rest : List ℕ) → version_at (four ++ rest) ≡ Ok (version, rest)) where
    is_file : (xs ys : List ℕ) → xs ≡ four ++ ys → list_said xs ≡ of_file (keys_behind version ys)
    unfolding long_file_keys
    is_file xs ys taken =
        let begun : version_at xs ≡ Ok (version, ys) = ap version_at taken ∙ some ys in
        ap (file_or_text xs) begun ∙ ap (λ (r : Result (Version × List ℕ) KeyFault). of_file (r >>= (λ b. keys_behind b.0 b.1))) begun

    pub file_ok : {X : Type 0} (a b c : Option (List ℕ)) (view : X → List ℕ) (pieces : X) (keys : KeyList) → Consumes a b four → ReadsKeys b c (keys_behind version) view (Ok pieces) → keys_in keys ≡ view pieces → ReadsKeyList a c (Ok keys)
    file_ok None b c view pieces keys taken read same = tt
    file_ok (Some xs) None c view pieces keys taken read same = absurd taken
    file_ok (Some xs) (Some ys) None view pieces keys taken read same = absurd read
    file_ok (Some xs) (Some ys) (Some zs) view pieces keys taken read same = is_file xs ys taken ∙ ap of_file read ∙ ap (λ ks. Ok (ks, zs)) (sym same)

    pub file_fails : {X : Type 0} (a b c : Option (List ℕ)) (view : X → List ℕ) (fault : KeyFault) → Consumes a b four → ReadsKeys b c (keys_behind version) view (Err fault) → ReadsKeyList a c (Err (Keys fault))
    file_fails None b c view fault taken read = tt
    file_fails (Some xs) None c view fault taken read = absurd taken
    file_fails (Some xs) (Some ys) c view fault taken read =
        subst (Fails is_list_silent (Keys fault)) (sym (is_file xs ys taken)) (file_refused (keys_behind version ys) fault read)
      where
        file_refused : (r : Result (List ℕ × List ℕ) KeyFault) (fault : KeyFault) → KeysFail fault r → Fails is_list_silent (Keys fault) (of_file r)
        file_refused r fault h = elim (cases_Bool (files.is_silent fault)) [ inl quiet ↦ rw quiet tt | inr says ↦ rw says (ap of_file (rw says at h)) ]
