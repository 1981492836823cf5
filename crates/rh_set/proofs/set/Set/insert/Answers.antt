use Rattle.std.proofs.Common.{◌∙◌, sym, arith, subst}
use Rattle.std.specs.Prelude.{IsTrue}
use Rattle.std.specs.FinSet as set
use Rattle.rh_edit.specs.Held.{Held}
use Rattle.rh_set.proofs.KeyLemmas.{are_keys_in, with_present}
use Rattle.rh_set.proofs.set.Set.insert.Goals as goal

pub returns-then-has-clause-keys : goal.returns-then-has-clause-keys
returns-then-has-clause-keys c =
    with_present c.args.self.now.keys c.args.number (subst (λ (h : Held). IsTrue (set.contains h.keys c.args.number)) c.self.view_is (sym c.has.ensures ∙ c.if-has.true))

pub invariant_of-self : goal.invariant_of-self
invariant_of-self c = are_keys_in c.self-2.inside.table.keys c.insert.new.self.keys c.args.number (omega (arith, c.if-number-gt-MAX_KEY.false)) c.self-2.invariant c.insert.ensures.keys
