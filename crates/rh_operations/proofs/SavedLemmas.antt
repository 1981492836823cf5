-- A list in memory.
use Rattle.std.proofs.Common.{◌≡◌, ◌∙◌, ap, arith, ℕ, ◌^◌, ◌<◌, List, [], ◌++◌, length, Some, Ok}
use Rattle.std.specs.Prelude.{All}
use Rattle.rh_layout.specs.Key.{IsKey}
use Rattle.rh_layout.specs.declared.limits.TheConstants.{MAX_BITS}
use Rattle.rh_key_files.specs.declared.version.Version.TheVariants.{Second}
use Rattle.rh_key_files.specs.KeyFile.{KeyFile, spelling}
use Rattle.rh_key_files.specs.Source as source
use Rattle.rh_key_files.proofs.Grammar.{file_given}
use Rattle.rh_operations.specs.Found.{keys_found, keys_or_cause}

pub spelled_in_memory : (keys saved old new : List ℕ) → old ≡ [] → new ≡ old ++ spelling Second keys → All IsKey keys → length keys < 2 ^ MAX_BITS → keys ≡ saved → keys_found (Some new) ≡ Ok saved
spelled_in_memory keys saved old new none written in_range few same =
    let file : KeyFile Second new keys = record {
      spelled = written ∙ ap (λ (l : List ℕ). l ++ spelling Second keys) none;
      few = omega (arith, few);
      in_range = λ k d inside. (omega arith, in_range k d inside);
    } in
    ap (λ r. keys_or_cause (source.keys_alone r)) (file_given Second new keys file) ∙ ap (λ (k : List ℕ). Ok k) same
