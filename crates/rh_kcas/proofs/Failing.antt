-- What a K-CAS that failed says of the acts of all workers.
use Rattle.std.proofs.Common.{ℕ, subst}
use Rattle.rh_world.specs.World.{In}
use Rattle.rh_world.specs.Facts.Fact.{failed_at}
use Rattle.rh_words.specs.View.{own_ref}
use Rattle.rh_helping.specs.Opening.{next_own}
use Rattle.rh_kcas.specs.Failures.{FailuresTell}

pub failures_tell : FailuresTell
failures_tell w z keep side world_tells es v next e mine knows worker rest facts opened =
    let noted : In (failed_at (own_ref v v.next_number) e) (keep v.worker).side.facts =
    subst (λ (u : ℕ). In (failed_at (record { worker = u; number = v.next_number }) e) (keep v.worker).side.facts) worker
    (facts (failed_at (own_ref next v.next_number) e) rest.result.1) in
    let missed = world_tells.missed v.worker (next_own v es) e mine opened noted in
    record {
      entry = missed.entry;
      differs = missed.differs;
      prefix = missed.prefix;
      earlier = λ k i j. missed.read_before k i (knows.sound.reads _ j);
      later = missed.read_after;
    }
