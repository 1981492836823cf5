-- Why nothing was made of a list.
use Rattle.std.proofs.Common.{◌≡◌, ◌∙◌, ap, sym, subst, refl, ℕ, inl, inr, List, Result, Ok, Err, IsOk}
use Rattle.rh_bytes.specs.Counting.{Rose}
use Rattle.rh_bytes.specs.Input.{◌>>=◌}
use Rattle.rh_key_files.specs.Source.{Coming}
use Rattle.rh_runner.specs.declared.runner.PhaseFault.{PhaseFault}
use Rattle.rh_runner.specs.declared.runner.PhaseFault.TheVariants as phase_faults
use Rattle.rh_runner.specs.declared.fault.ListFault.TheVariants as list_faults
use Rattle.rh_runner.specs.Lists.{Took}
use Rattle.rh_runner.specs.Starts.{RefusedPhase}
use Rattle.rh_operations.specs.declared.cause.Cause.{Cause}
use Rattle.rh_operations.specs.declared.cause.Cause.TheVariants as causes
use Rattle.rh_operations.specs.Refusals.{FaultOn, MemoryFails, RefusedBy, RefusedOn, StartFails}

pub phase_refused : (n m : ℕ) (fault : PhaseFault) → (fault ≡ phase_faults.NoThread → Rose n m) → RefusedPhase n m fault
phase_refused n m phase_faults.Memory rose = tt
phase_refused n m phase_faults.NoThread rose = rose refl

-- a phase over keys in memory fails as one over keys that come
pub phase_fault : (coming : Coming) (n m : ℕ) (cause : Cause) → StartFails n m cause → FaultOn coming n m cause
phase_fault coming n m causes.Memory out = (list_faults.Phase phase_faults.Memory, refl, tt)
phase_fault coming n m causes.NoThread out = (list_faults.Phase phase_faults.NoThread, refl, out)
phase_fault coming n m _ out = absurd out

abbrev no_size : Cause → Result ℕ Cause
no_size e = Err e

module _ {X : Type 0} (room : Result ℕ Cause) (make : List ℕ → Result X Cause) (coming : Coming) (left n m : ℕ) where
  -- there is no table of a size, or no memory for it
  pub room_refused : (cause : Cause) → RefusedBy room MemoryFails cause → (cause ≡ causes.Memory → IsOk room) → RefusedOn room make coming left n m cause
  room_refused cause (inl said) ok = inl said
  room_refused causes.Memory (inr out) ok = has_room room refl (ok refl)
    where
      has_room : (r : Result ℕ Cause) → room ≡ r → IsOk room → RefusedOn room make coming left n m causes.Memory
      has_room (Ok bits) is some = inr (bits, is, inl (list_faults.Phase phase_faults.Memory, refl, tt))
      has_room (Err e) is some = let none : IsOk (no_size e) = subst IsOk is some in absurd cc
  room_refused cause (inr out) ok = absurd out

-- ---- what is made of keys that were taken

module _ {X : Type 0} (bits : ℕ) (make : List ℕ → Result X Cause) (coming : Coming) (left n m : ℕ) where
  -- memory ran out
  pub no_memory : (cause : Cause) → cause ≡ causes.Memory → RefusedOn (Ok bits) make coming left n m cause
  no_memory cause is = inr (bits, refl, inl (list_faults.Phase phase_faults.Memory, is, tt))

  -- a phase over them failed
  pub phase_failed : (k : ℕ) (cause : Cause) → k ≡ n → StartFails k m cause → RefusedOn (Ok bits) make coming left n m cause
  phase_failed k cause same out = inr (bits, refl, inl (phase_fault coming n m cause (subst (λ starts. StartFails starts m cause) same out)))

  -- so it did, or there is no table of a size for what is made
  pub not_made : {Y : Type 0} (list : List ℕ) (size wanted : Result Y Cause) (then : Y → Result X Cause) (k : ℕ) (cause : Cause) → Took coming left list → size ≡ wanted → make list ≡ (wanted >>= then) → k ≡ n
      → RefusedBy size (StartFails k m) cause → RefusedOn (Ok bits) make coming left n m cause
  not_made list size wanted then k cause took same is starts (inl said) = inr (bits, refl, inr (list, took, is ∙ ap (λ r. r >>= then) (sym same ∙ said)))
  not_made list size wanted then k cause took same is starts (inr out) = phase_failed k cause starts out
