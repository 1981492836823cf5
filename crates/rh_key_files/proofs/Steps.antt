-- The version that four bytes name, whatever comes behind them.
use Rattle.std.proofs.Common.{◌≡◌, ℕ, false, List, ◌++◌, Ok, Err, inl, inr, refl, ap, ◌∙◌, length, take}
use Rattle.std.specs.Str.{bytes_eq}
use Rattle.std.proofs.lemmas.Bool.{cases_Bool}
use Rattle.std.proofs.lemmas.List.{take_at}
use Rattle.rh_key_files.specs.declared.version.Version.{Version}
use Rattle.rh_key_files.specs.declared.version.Version.TheVariants.{First, Second}
use Rattle.rh_key_files.specs.declared.fault.KeyFault.{KeyFault}
use Rattle.rh_key_files.specs.declared.fault.KeyFault.TheVariants.{NotKeys, Short}
use Rattle.rh_key_files.specs.KeyFile.{magic}
use Rattle.rh_bytes.specs.Input.{begins_with_bytes, bytes_at}
use Rattle.rh_key_files.specs.Reading.{version_at}
use Rattle.rh_key_files.proofs.Grammar.{version_given}

module _ (four rest : List ℕ) where
  pub magic_named : (version : Version) → four ≡ magic version → version_at (four ++ rest) ≡ Ok (version, rest)
  magic_named version is = ap (λ l. version_at (l ++ rest)) is ∙ version_given version rest

  pub none_named : length four ≡ 4 → bytes_eq four (magic First) ≡ false → bytes_eq four (magic Second) ≡ false → (fault : KeyFault) × (version_at (four ++ rest) ≡ Err fault)
  unfolding version_at bytes_at
  none_named len other neither =
      let front : take 4 (four ++ rest) ≡ four = take_at four rest 4 len in
      elim (cases_Bool (begins_with_bytes 4 (four ++ rest))) [
        | inl there ↦ (NotKeys, rw there (rw front (rw (other, neither) refl)))
        | inr few ↦ (Short, rw few refl)
      ]
