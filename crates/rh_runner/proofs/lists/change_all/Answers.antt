use Rattle.std.proofs.Common.{◌∙◌, refl, arith, take, length-append, length-take}
use Rattle.rh_runner.specs.Lists.{Ran}
use Rattle.rh_runner.proofs.ListLemmas.{none_came, more_came, more_ran, room_left, tally_fits}
use Rattle.rh_runner.proofs.lists.change_all.Goals as goal

pub loop-room-init : goal.loop-room-init
loop-room-init g c = (_, none_came _ _, record { layout = c.requires.layout; held = refl; tally = refl }, refl, refl)

pub change-requires-clause-room : goal.change-requires-clause-room
change-requires-clause-room g c =
    room_left c.loop-room.invariant.2 (g.K.KeySource.left_of c.args.keys.now) (take c.in_ok-n.n c.next_keys.new.batch) c.requires.kind c.requires.room
    (simp length-take (omega (arith, c.loop-room.invariant.1.long, c.in_ok-n.ensures.left)))

pub unwrap-tally-requires : goal.unwrap-tally-requires
unwrap-tally-requires g c =
    let next : Ran c.args.kind c.args.scratch.now.bits (take c.in_ok-n.n c.next_keys.new.batch) c.loop-room.cells.items c.change.new.cells.items c.in_ok-more.more =
    record { layout = c.in_ok-more.ensures.layout; held = c.in_ok-more.ensures.keys; tally = c.in_ok-more.ensures.tally } in
    c.joined.ensures.fits.1
    (tally_fits (more_ran c.loop-room.invariant.2 next)
    (simp (length-append, length-take) (omega (arith, c.loop-room.invariant.1.long, c.in_ok-n.ensures.left, c.keys_left-most.ensures, c.keys_left-most.type_inv))))

pub loop-room-preserved : goal.loop-room-preserved
loop-room-preserved g c =
    let next : Ran c.args.kind c.args.scratch.now.bits (take c.in_ok-n.n c.next_keys.new.batch) c.loop-room.cells.items c.change.new.cells.items c.in_ok-more.more =
    record { layout = c.in_ok-more.ensures.layout; held = c.in_ok-more.ensures.keys; tally = c.in_ok-more.ensures.tally } in
    let ran = more_ran c.loop-room.invariant.2 next in
    let sums = rw c.unwrap-tally.ensures at c.joined.ensures.sums in (
      _,
      more_came c.loop-room.invariant.1 _ c.next_keys.new.batch _ c.in_ok-n.n c.in_ok-n.ensures.gives c.if-n-eq0.false c.in_ok-n.ensures.room c.in_ok-n.ensures.left c.in_ok-n.ensures.in_range,
      record { layout = ran.layout; held = ran.held; tally = sums ∙ ran.tally },
      c.in_ok-more.ensures.starts.fine ∙ c.loop-room.invariant.3,
      c.in_ok-n.ensures.fine ∙ c.loop-room.invariant.4,
    )
