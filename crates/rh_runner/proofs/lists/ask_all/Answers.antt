use Rattle.std.proofs.Common.{◌≡◌, ◌∙◌, [], ◌++◌, refl, rules, take}
use Rattle.rh_layout.specs.Layout.{keys_of}
use Rattle.rh_runner.proofs.ListLemmas.{none_came, more_came, look_ups_more}
use Rattle.rh_runner.proofs.lists.ask_all.Goals as goal

pub loop-room-init : goal.loop-room-init
loop-room-init g c =
    let empty : c.in_ok-found.found.items ≡ [] = search rules in
    (_, none_came _ _, empty, refl, refl)

pub loop-room-preserved : goal.loop-room-preserved
loop-room-preserved g c =
    let longer : c.extend_from_slice.new.self.items ≡ c.loop-room.found.items ++ c.deref.result.now = search rules in (
      _,
      more_came c.loop-room.invariant.1 _ c.next_keys.new.batch _ c.in_ok-n.n c.in_ok-n.ensures.gives c.if-n-eq0.false c.in_ok-n.ensures.room c.in_ok-n.ensures.left c.in_ok-n.ensures.in_range,
      look_ups_more (keys_of c.args.cells.now) c.loop-room.invariant.0 (take c.in_ok-n.n c.next_keys.new.batch) c.loop-room.found.items c.deref.result.now c.extend_from_slice.new.self.items c.loop-room.invariant.2 (rw c.deref.ensures.value c.in_ok-answers.ensures.found) longer,
      c.in_ok-answers.ensures.starts.fine ∙ c.loop-room.invariant.3,
      c.in_ok-n.ensures.fine ∙ c.loop-room.invariant.4,
    )
