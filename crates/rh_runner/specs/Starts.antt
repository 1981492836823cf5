-- The workers of a phase, and the starts of threads that were refused.
use Rattle.std.specs.Prelude.{◌≡◌, ◌<◌, ℕ, Result, IsErrOf, OnOk}
use Rattle.rh_bytes.specs.Counting.{Rose}
use Rattle.rh_runner.specs.declared.runner.PhaseFault.{PhaseFault}
use Rattle.rh_runner.specs.declared.runner.PhaseFault.TheVariants.{Memory, NoThread}

-- Why a phase was not carried out: memory ran out, or the start of a thread was refused, which the runner counted.
abbrev pub RefusedPhase : (starts starts' : ℕ) → PhaseFault → Type 0
RefusedPhase n m Memory = Unit {0}
RefusedPhase n m NoThread = Rose n m

-- What a phase leaves of its runner: as many workers; and it counts a refused start where it tells of one, which takes several workers,
-- and none else.
pub record CountsStarts {X : Type 0} (workers workers' starts starts' : ℕ) (r : Result X PhaseFault) : Type 0 where
  pub same : workers' ≡ workers
  pub no_thread : IsErrOf r NoThread → (1 < workers) × Rose starts starts'
  pub memory : IsErrOf r Memory → starts' ≡ starts
  pub fine : OnOk r (starts' ≡ starts)
