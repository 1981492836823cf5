use Rattle.std.proofs.Common.{rules, ◌^◌, ◌<◌, ap, arith, inl, inr, refl}
use Rattle.std.proofs.lemmas.Result.{err_from_is_err_and}
use Rattle.std.specs.FinSet as set
use Rattle.rh_layout.specs.Layout.{keys_of}
use Rattle.rh_runner.specs.declared.runner.PhaseFault.TheVariants.{Memory}
use Rattle.rh_runner.specs.declared.fault.ListFault.TheVariants.{Phase}
use Rattle.rh_operations.proofs.Making.{free_after_dropping}
use Rattle.rh_operations.proofs.sets.drop_keys.Goals as goal

pub from_cells-requires-clause-free : goal.from_cells-requires-clause-free
from_cells-requires-clause-free g c =
    let done = c.in_ok-tally.ensures.done in
    let old = c.in_ok-scratch.scratch.cells.items in
    let room : set.len (keys_of old) < 2 ^ c.in_ok-scratch.scratch.bits = omega (arith, c.in_ok-scratch.ensures.room, ap (λ S. set.len S) c.in_ok-scratch.ensures.keys) in
    rw c.in_ok-tally.ensures.bits (free_after_dropping c.in_ok-scratch.scratch.bits done.0 old c.change_all.new.scratch.cells.items c.in_ok-tally.tally done.2 room)

pub returns-in_err-scratch : goal.returns-in_err-scratch
returns-in_err-scratch g c =
    let p = err_from_is_err_and c.from_residual.result c.from_residual.ensures.1 in
    record {
      done = search rules;
      refused = rw p.1 (inr (c.args.set.now.bits, refl, inl (Phase Memory, p.2, tt)));
      unchanged = search rules;
      told = search rules;
      own = search rules;
      runner = search rules;
    }
