-- What the first four bytes tell of a list.
use Rattle.std.proofs.Common.{◌≡◌, ℕ, ◌<◌, List, [], ◌++◌, length, Option, Some, None, Result, Ok, Err, inl, inr, sym, ap, subst, ◌∙◌, refl, arith, append-nil, length-append, ◌+◌}
use Rattle.std.specs.Prelude.{true}
use Rattle.std.proofs.lemmas.Bool.{cases_Bool}
use Rattle.std.specs.Io.KnownBytes.{Consumes, IsAtEnd}
use Rattle.rh_bytes.specs.Input.{◌>>=◌, Fails, Reads, bytes_at}
use Rattle.rh_bytes.proofs.Spelled.{begins_not}
use Rattle.rh_key_files.specs.declared.fault.KeyFault.{KeyFault}
use Rattle.rh_key_files.specs.declared.fault.KeyFault.TheVariants as faults
use Rattle.rh_key_files.specs.declared.version.Version.{Version}
use Rattle.rh_key_files.specs.Reading as files
use Rattle.rh_key_files.specs.Reading.{KeysFail, ReadsKeys, keys_behind, long_file_keys, version_at}
use Rattle.rh_lists.specs.declared.fault.ListFault.{ListFault}
use Rattle.rh_lists.specs.declared.fault.ListFault.TheVariants.{Keys}
use Rattle.rh_lists.specs.Lists.{HasBytes, is_list_silent}
use Rattle.rh_checks.specs.declared.found.Found.{Found}
use Rattle.rh_checks.specs.Lines.{findings, text_findings}
use Rattle.rh_checks.specs.Lists.{FindsText, found_by_head, findings_in, list_findings, found_in_file}

-- what is answered of a list
abbrev pub Finds : Option (List ℕ) → Option (List ℕ) → Result Found ListFault → Type 0
Finds old new r = Reads is_list_silent old new list_findings findings_in r

few_bytes : (bytes : List ℕ) → length bytes < 4 → version_at bytes ≡ Err faults.Short
unfolding version_at bytes_at
few_bytes bytes few = rw (begins_not 4 bytes few) refl

-- a fault that says nothing of the bytes
pub silent : (a b : Option (List ℕ)) (fault : ListFault) → is_list_silent fault ≡ true → Finds a b (Err fault)
silent None b fault quiet = tt
silent (Some bytes) b fault quiet = rw quiet tt

-- fewer than four bytes
pub short_told : (bytes : List ℕ) (a b : Option (List ℕ)) (found : Found) → length bytes < 4 → Consumes a b bytes → IsAtEnd b → findings_in found ≡ text_findings bytes → Finds a b (Ok found)
short_told bytes None b found few taken end is = tt
short_told bytes (Some xs) None found few taken end is = absurd taken
short_told bytes (Some xs) (Some ys) found few taken end is =
    let same : xs ≡ bytes = taken ∙ ap (λ l. bytes ++ l) end ∙ append-nil bytes in
    ap (found_by_head xs) (few_bytes xs (omega (arith, ap length same, few))) ∙ (λ i. Ok ((ap text_findings same ∙ sym is) i, sym end i))

-- four bytes, and what comes behind them
module _ (four : List ℕ) where
  pub text_told : ((rest : List ℕ) → (fault : KeyFault) × (version_at (four ++ rest) ≡ Err fault)) → (a b c : Option (List ℕ)) (found : Found) → Consumes a b four → FindsText four b c (Ok found) → Finds a c (Ok found)
  text_told none None b c found taken is = tt
  text_told none (Some xs) None c found taken is = absurd taken
  text_told none (Some xs) (Some ys) None found taken is = absurd is
  text_told none (Some xs) (Some ys) (Some zs) found taken is =
      ap (found_by_head xs) (ap version_at taken ∙ (none ys).1) ∙ (λ i. Ok ((ap text_findings taken ∙ sym is.0) i, sym is.1 i))

  pub many_behind : (n : ℕ) (a b : Option (List ℕ)) → Consumes a b four → HasBytes n b → HasBytes n a
  many_behind n None b taken many = tt
  many_behind n (Some xs) None taken many = absurd taken
  many_behind n (Some xs) (Some ys) taken many = omega (arith, many, ap length taken, length_of_two four ys)
    where
      length_of_two : (xs ys : List ℕ) → length (xs ++ ys) ≡ length xs + length ys
      length_of_two xs ys = length-append xs ys

  module _ (version : Version) (some : (rest : List ℕ) → version_at (four ++ rest) ≡ Ok (version, rest)) where
    is_file : (xs ys : List ℕ) → xs ≡ four ++ ys → list_findings xs ≡ found_in_file (keys_behind version ys)
    unfolding long_file_keys
    is_file xs ys taken =
        let begun : version_at xs ≡ Ok (version, ys) = ap version_at taken ∙ some ys in
        ap (found_by_head xs) begun ∙ ap (λ (r : Result (Version × List ℕ) KeyFault). found_in_file (r >>= (λ b. keys_behind b.0 b.1))) begun

    pub file_told : {X : Type 0} (a b c : Option (List ℕ)) (view : X → List ℕ) (pieces : X) (found : Found) → Consumes a b four → ReadsKeys b c (keys_behind version) view (Ok pieces) → findings_in found ≡ findings (view pieces) [] → Finds a c (Ok found)
    file_told None b c view pieces found taken read is = tt
    file_told (Some xs) None c view pieces found taken read is = absurd taken
    file_told (Some xs) (Some ys) None view pieces found taken read is = absurd read
    file_told (Some xs) (Some ys) (Some zs) view pieces found taken read is = is_file xs ys taken ∙ ap found_in_file read ∙ ap (λ t. Ok (t, zs)) (sym is)

    pub file_refused : {X : Type 0} (a b c : Option (List ℕ)) (view : X → List ℕ) (fault : KeyFault) → Consumes a b four → ReadsKeys b c (keys_behind version) view (Err fault) → Finds a c (Err (Keys fault))
    file_refused None b c view fault taken read = tt
    file_refused (Some xs) None c view fault taken read = absurd taken
    file_refused (Some xs) (Some ys) c view fault taken read =
        subst (Fails is_list_silent (Keys fault)) (sym (is_file xs ys taken)) (refused (keys_behind version ys) fault read)
      where
        refused : (r : Result (List ℕ × List ℕ) KeyFault) (fault : KeyFault) → KeysFail fault r → Fails is_list_silent (Keys fault) (found_in_file r)
        refused r fault h = elim (cases_Bool (files.is_silent fault)) [ inl quiet ↦ rw quiet tt | inr says ↦ rw says (ap found_in_file (rw says at h)) ]
