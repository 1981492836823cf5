use Rattle.std.proofs.Common.{arith}
use Rattle.rh_layout.specs.Layout.{keys_of}
use Rattle.rh_surface_tests.proofs.Free.{one_is_free, two_are_free}
use Rattle.rh_surface_tests.proofs.layout.has_room.Goals as goal

pub returns-clause-one : goal.returns-clause-one
returns-clause-one c free =
    let full = c.has_free.ensures.full (keys_of c.args.cells.now) c.requires in
    omega (arith, full, c.requires.size, one_is_free c.args.cells.now free.0 free.1 free.2)

pub returns-clause-two : goal.returns-clause-two
returns-clause-two c free =
    let full = c.has_free.ensures.full (keys_of c.args.cells.now) c.requires in
    omega (arith, full, c.requires.size, two_are_free c.args.cells.now free.0 free.1 free.2 free.3 free.4 free.5)
