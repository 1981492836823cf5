use Rattle.std.proofs.Common.{ap}
use Rattle.rh_words.specs.View.{View}
use Rattle.rh_kcas_tests.proofs.stress.stress.Goals as goal

pub close-requires-clause-rest : goal.close-requires-clause-rest
close-requires-clause-rest g c r s at =
    let fresh = c.loop-number.invariant.fresh r s at in
    record {
      still = ap (λ (v : View). v.wiping) fresh;
      rest = record {
        closed = ap (λ (v : View). v.side.current) fresh;
        settled = ap (λ (v : View). v.side.unsettled) fresh;
        paid = ap (λ (v : View). v.side.debts) fresh;
      };
    }
