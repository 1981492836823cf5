use Rattle.std.proofs.Common.{ap, refl}
use Rattle.rh_play_text.specs.Grammar.{follow}
use Rattle.rh_play_text.specs.Play.{saying_as}
use Rattle.rh_play_text.proofs.Entering.{bits_fit, goes, not_filled, not_first, not_sized, stays}
use Rattle.rh_play_text.proofs.draft.Draft.follow.Goals as goal

pub returns-in-Play : goal.returns-in-Play
unfolding follow
returns-in-Play c = rw c.in-Empty.is (goes _ c.args.line _ _ _ c.requires (ap saying_as c.in-Play.is) refl refl)

pub returns-in-Empty : goal.returns-in-Empty
returns-in-Empty c = λ _. rw c.in-Empty.is (stays _ _ (not_first c.args.line c.in_default.not-Play))

pub invariant_of-result : goal.invariant_of-result
invariant_of-result c =
    let fit = bits_fit c.args.line c.in-Bits.value c.requires c.in-Bits.is in
    record { least = fit.0; most = fit.1 }

pub returns-in-Bits : goal.returns-in-Bits
unfolding follow
returns-in-Bits c = rw c.in-Named.is (goes _ c.args.line _ _ _ c.requires (ap saying_as c.in-Bits.is) refl refl)

pub returns-in-Named : goal.returns-in-Named
returns-in-Named c = λ _. rw c.in-Named.is (stays _ _ (not_sized c.args.line c.in_default-line.not-Bits))

pub returns-in-Held : goal.returns-in-Held
unfolding follow
returns-in-Held c = rw c.in-Sized.is (goes _ c.args.line _ _ _ c.requires (ap saying_as c.in-Held.is) refl refl)

pub returns-in-Sized : goal.returns-in-Sized
returns-in-Sized c = λ _. rw c.in-Sized.is (stays _ _ (not_filled c.args.line c.in_default-line-2.not-Held))
