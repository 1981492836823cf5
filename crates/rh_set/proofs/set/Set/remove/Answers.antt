use Rattle.std.proofs.Common.{subst}
use Rattle.rh_edit.specs.Held.{Held}
use Rattle.rh_set.specs.Inserting.{AreKeys}
use Rattle.rh_set.proofs.KeyLemmas.{are_keys_out, without_absent}
use Rattle.rh_set.proofs.set.Set.remove.Goals as goal

pub invariant_of-self : goal.invariant_of-self
invariant_of-self c = are_keys_out c.self.inside.table.keys c.remove.new.self.keys c.args.number c.self.invariant c.remove.ensures.keys

pub returns-else-number-le-MAX_KEY-clause-keys : goal.returns-else-number-le-MAX_KEY-clause-keys
returns-else-number-le-MAX_KEY-clause-keys c =
    without_absent c.args.self.now.keys c.args.number (subst (λ (h : Held). AreKeys h.keys) c.self.view_is c.self.invariant) c.if-number-le-MAX_KEY.false
