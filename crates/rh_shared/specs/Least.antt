-- A shape that stands where no table is meant.
use Rattle.std.proofs.Common.{rules}
use Rattle.rh_words.specs.Parts.{usual_rooms}
use Rattle.rh_words.specs.declared.shape.Shape.{Shape}

-- of the least table, by one worker
pub least_shape : Shape
least_shape = record {
  bits = 3;
  workers = 1;
  keys = 0;
  rooms = usual_rooms;
  bits_fit = search rules;
  some_worker = search rules;
  workers_fit = search rules;
  keys_fit = search rules;
  descriptors_fit = search rules;
  marks_fit = search rules;
}
