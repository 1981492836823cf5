use Rattle.std.proofs.Common.{inl, inr, refl}
use Rattle.rh_worker.proofs.deciding.answer.Goals as goal

pub returns-in-Here : goal.returns-in-Here
returns-in-Here c entries = inl (refl, (c.in-Here.field-0, c.in-Here.ensures))

pub returns-in-Goes : goal.returns-in-Goes
returns-in-Goes c entries = inr (refl, (c.in-Goes.field-0, c.in-Goes.ensures))
