use Rattle.std.proofs.Common.{rules, ◌+◌, ◌^◌, ◌<◌, ap, arith, length, subst}
use Rattle.std.proofs.lemmas.Result.{err_from_is_err_and}
use Rattle.std.specs.FinSet as set
use Rattle.rh_layout.specs.Layout.{keys_of}
use Rattle.rh_operations.specs.Actions.{adds}
use Rattle.rh_operations.specs.Refusals.{RefusedOn}
use Rattle.rh_operations.specs.Size.{size_for}
use Rattle.rh_operations.proofs.Making.{free_after_adding}
use Rattle.rh_operations.proofs.Refusing.{room_refused}
use Rattle.rh_operations.proofs.sets.add_keys.Goals as goal

pub from_cells-requires-clause-free : goal.from_cells-requires-clause-free
from_cells-requires-clause-free g c =
    let done = c.in_ok-tally.ensures.done in
    let old = c.in_ok-scratch.scratch.cells.items in
    let room : set.len (keys_of old) + length done.0 < 2 ^ c.in_ok-scratch.scratch.bits =
    omega (arith, done.1.long, c.keys_left.ensures, c.in_ok-scratch.ensures.room, ap (λ S. set.len S) c.in_ok-scratch.ensures.keys) in
    rw c.in_ok-tally.ensures.bits (free_after_adding c.in_ok-scratch.scratch.bits done.0 old c.change_all.new.scratch.cells.items c.in_ok-tally.tally done.2 room)

pub returns-in_err-scratch : goal.returns-in_err-scratch
returns-in_err-scratch g c =
    let p = err_from_is_err_and c.from_residual.result c.from_residual.ensures.1 in
    let t = c.args.set.now in
    let coming = g.K.KeySource.coming c.args.keys.now in
    let left = g.K.KeySource.left_of c.args.keys.now in
    let starts = g.N.Runner.refused_starts c.args.runner.now in
    record {
      done = search rules;
      refused = rw (p.1, p.2) (subst (λ many. RefusedOn (size_for t.bits (set.len t.keys + many)) (adds t) coming left starts starts c.in_err-scratch.field-0.0) c.keys_left.ensures
          (room_refused (size_for t.bits (set.len t.keys + c.keys_left.result)) (adds t) coming left starts starts _ c.in_err-scratch.ensures.refused c.in_err-scratch.ensures.memory));
      unchanged = search rules;
      told = search rules;
      own = search rules;
      runner = search rules;
    }
