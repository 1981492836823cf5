-- A worker at rest is so after a Claim, which notes a number and nothing else.
use Rattle.std.proofs.Common.{◌≡◌, ℕ, sym, subst}
use Rattle.rh_world.specs.Sides.{claim_side}
use Rattle.rh_words.specs.View.{View}
use Rattle.rh_words.specs.Steps.{with_side}
use Rattle.rh_carrier.specs.Own.{IsClear}
use Rattle.rh_shared.specs.Rests.{IsRested}

still_clear : (v : View) (word : ℕ) → IsClear v → IsClear (with_side v (claim_side v.side word))
still_clear v word h =
    let owns = h.own.owns in record {
      own = record {
        owns = record {
          current = owns.current;
          newest = owns.newest;
          noted = λ o i. let n = owns.noted o i in record { known = n.known; size = n.size; cells = n.cells; olds = n.olds; news = n.news };
          last = owns.last;
        };
        row = h.own.row;
      };
      owes = record { settled = h.owes.settled; paid = h.owes.paid; unreleased = h.owes.unreleased };
    }

pub claim_rested : (v next : View) (word : ℕ) → next ≡ with_side v (claim_side v.side word) → IsRested v → IsRested next
claim_rested v next word is h = subst IsRested (sym is) record { clear = still_clear v word h.clear; over = h.over }
