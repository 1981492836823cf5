use Rattle.std.proofs.Common.{◌∙◌, arith}
use Rattle.rh_edit.proofs.SetLemmas.{from_list_more, room_for_more}
use Rattle.rh_play_run.proofs.Begun.{empty_layout, no_key, some_free}
use Rattle.rh_play_run.proofs.beginning.set_of.Goals as goal

pub from_cells-set-requires-clause-layout : goal.from_cells-set-requires-clause-layout
from_cells-set-requires-clause-layout c =
    empty_layout c.args.blank.items _ _ c.args.bits c.requires.blank c.requires.bits c.cells_in.ensures c.truncate.ensures.items

pub from_cells-set-requires-clause-free : goal.from_cells-set-requires-clause-free
from_cells-set-requires-clause-free c =
    some_free c.args.blank.items _ _ c.args.bits c.requires.blank c.requires.bits c.cells_in.ensures c.truncate.ensures.items

pub loop-key-init : goal.loop-key-init
loop-key-init c = record {
  bits = c.from_cells-set.ensures.bits;
  keys = c.from_cells-set.ensures.keys
      ∙ no_key c.args.blank.items _ _ c.args.bits c.requires.blank c.requires.bits c.cells_in.ensures c.truncate.ensures.items;
}

pub insert-requires-clause-room : goal.insert-requires-clause-room
insert-requires-clause-room c =
    room_for_more c.args.keys.now c.loop-key.key-index c.args.bits c.loop-key.set.bits c.loop-key.set.keys (omega arith) c.requires.few c.loop-key.invariant.bits c.loop-key.invariant.keys

pub loop-key-preserved : goal.loop-key-preserved
loop-key-preserved c = record {
  bits = c.insert.ensures.bits ∙ c.loop-key.invariant.bits;
  keys = c.insert.ensures.keys ∙ from_list_more c.args.keys.now c.loop-key.key-index c.loop-key.set.keys (omega arith) c.loop-key.invariant.keys;
}
