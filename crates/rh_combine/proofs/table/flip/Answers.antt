use Rattle.std.proofs.Common.{◌∙◌, sym}
use Rattle.rh_combine.proofs.TableLemmas.{flip_in, flip_out, room_to_flip}
use Rattle.rh_combine.proofs.table.flip.Goals as goal

pub insert-requires-clause-room : goal.insert-requires-clause-room
insert-requires-clause-room c = room_to_flip c.args.set.now.keys c.args.key c.args.set.now.bits c.remove.new.self.bits c.remove.new.self.keys c.requires.room c.remove.ensures.bits c.remove.ensures.keys

pub returns-then-not-remove-clause-keys : goal.returns-then-not-remove-clause-keys
returns-then-not-remove-clause-keys c = flip_in c.args.set.now.keys c.args.key c.remove.new.self.keys c.insert.new.self.keys (sym c.remove.ensures.changed ∙ c.if-not-remove.true) c.remove.ensures.keys c.insert.ensures.keys

pub returns-else-not-remove-clause-keys : goal.returns-else-not-remove-clause-keys
returns-else-not-remove-clause-keys c = flip_out c.args.set.now.keys c.args.key c.remove.new.self.keys (sym c.remove.ensures.changed ∙ c.if-not-remove.false) c.remove.ensures.keys
