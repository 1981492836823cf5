-- Where all workers are at rest: the acts of each, and the cells.
use Rattle.std.proofs.Common.{sym, ap, ◌∙◌, List, ◌++◌}
use Rattle.std.proofs.lemmas.List.{append-nil}
use Rattle.rh_world.specs.Acts.{cells_after}
use Rattle.rh_rule.proofs.Telling.{rests}
use Rattle.rh_acts.specs.Act.{Act}
use Rattle.rh_order.specs.History.{own_acts_of, value_of}
use Rattle.rh_order.specs.Histories.{Ended}
use Rattle.rh_order.proofs.Succeeding.{own_so_far}
use Rattle.rh_order.proofs.Values.{cells_length, get_cells}

pub at_rest : Ended
at_rest w z words keep core rest =
    let rested = rests w z words keep core rest in
    record {
      acts = λ v mine.
          let so = own_so_far w z words keep v core mine in
          so.finished ∙ ap (λ (acts : List Act). own_acts_of (keep v) ++ acts) (so.closed (rest.rest v mine).closed) ∙ append-nil (own_acts_of (keep v));
      size = cells_length z (cells_after w w.act_count);
      cells = λ c inside. ap (λ u. value_of u) (rested.cells c inside) ∙ sym (get_cells z (cells_after w w.act_count) c inside);
    }
