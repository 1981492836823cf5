-- Who is blamed for a failed read.
use Rattle.std.proofs.Common.{rules, ◌≡◌, ◌≢◌, ℕ, Option, Some, None, Result, Err, ap}
use Rattle.rh_bytes.specs.Counting.{Rose}
use Rattle.rh_key_files.specs.declared.fault.KeyFault.{KeyFault}

-- what has risen is not 0
pub rose_to_some : (m n : ℕ) → Rose m n → n ≢ 0
rose_to_some m n rose = search rules

abbrev outcome_of : {X : Type 0} → (other : Result X KeyFault) → Option KeyFault → Result X KeyFault
outcome_of other None = other
outcome_of other (Some e) = Err e

abbrev as_err : (X : Type 0) → KeyFault → Result X KeyFault
as_err X e = Err e

pub failed_by : {X : Type 0} (d e : KeyFault) → Some d ≡ Some e → as_err X d ≡ Err e
failed_by d e is = ap (outcome_of (Err d)) is
