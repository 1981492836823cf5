use Rattle.std.proofs.Common.{refl, arith}
use Rattle.rh_layout.specs.declared.limits.TheConstants.{MAX_BITS}
use Rattle.rh_grow.proofs.GrowthLemmas.{fits_more}
use Rattle.rh_grow.proofs.capacity.bits_for.Goals as goal

pub returns-then-fits-clause-some : goal.returns-then-fits-clause-some
returns-then-fits-clause-some c = (λ found. fits_more _ MAX_BITS _ (c.if-fits.ensures.0 refl) (omega arith), λ fits. refl)

pub returns-then-fits-clause-none : goal.returns-then-fits-clause-none
returns-then-fits-clause-none c = (λ missing. absurd cc, λ refused. absurd (refused (fits_more _ MAX_BITS _ (c.if-fits.ensures.0 refl) (omega arith))))

pub returns-clause-some : goal.returns-clause-some
returns-clause-some c = (λ found. absurd cc, λ fits. absurd (c.loop-size.invariant MAX_BITS c.requires.1 (omega arith) fits))

pub returns-clause-none : goal.returns-clause-none
returns-clause-none c = (λ missing fits. c.loop-size.invariant MAX_BITS c.requires.1 (omega arith) fits, λ refused. refl)
