use Rattle.std.proofs.Common.{ℕ, ◌<◌, subst, sym}
use Rattle.rh_words.specs.Steps.{Allowed, Step}
use Rattle.rh_shared.specs.Seats.{sitter_of, view_of}
use Rattle.rh_rdcss.proofs.MarkRows.{may_place, may_write_desc, may_write_entry, may_write_serial}
use Rattle.rh_rdcss.proofs.MarksMet.{learned_as}
use Rattle.rh_rdcss.proofs.placing.place_next.Goals as goal

pub make-requires-clause-allowed : goal.make-requires-clause-allowed
make-requires-clause-allowed c =
    let z = c.args.table.now.shape in
    let left = subst (λ (m : ℕ). m < z.rooms.marks) (sym c.args.seat.now.side.same_marks) c.requires.left in
    subst (λ (s : Step). Allowed z (view_of c.args.seat.now) s) (sym c.write_mark_serial-serial.ensures)
    (may_write_serial z (sitter_of c.args.seat.now) c.args.piece c.args.old c.requires.knows.knows c.requires.knows_it left)

pub make-requires-2-clause-allowed : goal.make-requires-2-clause-allowed
make-requires-2-clause-allowed c =
    let z = c.args.table.now.shape in
    subst (λ (s : Step). Allowed z (view_of c.make.new.seat) s) (sym c.write_mark_desc-desc.ensures)
    (may_write_desc z (sitter_of c.args.seat.now) c.args.piece c.args.old c.requires.knows.knows c.requires.knows_it _ (c.make.result, learned_as _ _ _ _ _ _ c.write_mark_serial-serial.ensures c.make.ensures.learned))

pub make-requires-3-clause-allowed : goal.make-requires-3-clause-allowed
make-requires-3-clause-allowed c =
    let z = c.args.table.now.shape in
    subst (λ (s : Step). Allowed z (view_of c.make-2.new.seat) s) (sym c.write_mark_entry-entry.ensures)
    (may_write_entry z (sitter_of c.args.seat.now) c.args.piece c.args.old c.requires.knows.knows c.requires.knows_it _ (c.make.result, learned_as _ _ _ _ _ _ c.write_mark_serial-serial.ensures c.make.ensures.learned)
    _ (c.make-2.result, learned_as _ _ _ _ _ _ c.write_mark_desc-desc.ensures c.make-2.ensures.learned))

pub make-requires-4-clause-allowed : goal.make-requires-4-clause-allowed
make-requires-4-clause-allowed c =
    let z = c.args.table.now.shape in
    let left = subst (λ (m : ℕ). m < z.rooms.marks) (sym c.args.seat.now.side.same_marks) c.requires.left in
    may_place z (sitter_of c.args.seat.now) c.args.piece c.args.old c.requires.knows.knows c.requires.knows_it _ left (record {
      first = _;
      second = _;
      of_serial = (c.make.result, learned_as _ _ _ _ _ _ c.write_mark_serial-serial.ensures c.make.ensures.learned);
      of_desc = (c.make-2.result, learned_as _ _ _ _ _ _ c.write_mark_desc-desc.ensures c.make-2.ensures.learned);
      of_entry = (c.make-3.result, learned_as _ _ _ _ _ _ c.write_mark_entry-entry.ensures c.make-3.ensures.learned);
    })

pub returns-clause-tried : goal.returns-clause-tried
returns-clause-tried c =
    let z = c.args.table.now.shape in record {
      left = subst (λ (m : ℕ). m < z.rooms.marks) (sym c.args.seat.now.side.same_marks) c.requires.left;
      written = _;
      row = record {
        first = _;
        second = _;
        of_serial = (c.make.result, learned_as _ _ _ _ _ _ c.write_mark_serial-serial.ensures c.make.ensures.learned);
        of_desc = (c.make-2.result, learned_as _ _ _ _ _ _ c.write_mark_desc-desc.ensures c.make-2.ensures.learned);
        of_entry = (c.make-3.result, learned_as _ _ _ _ _ _ c.write_mark_entry-entry.ensures c.make-3.ensures.learned);
      };
      place = c.make-4.ensures.learned;
    }
