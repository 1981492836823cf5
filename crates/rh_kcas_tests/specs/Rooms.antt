-- Rooms that a table may give its workers.
use Rattle.std.specs.Prelude.{◌≤◌}
use Rattle.rh_words.specs.declared.limits.TheConstants.{MAX_ROOM}
use Rattle.rh_words.specs.declared.shape.Rooms.{Rooms}

pub record AreRooms (rooms : Rooms) : Type 0 where
  pub descriptors : rooms.descriptors ≤ MAX_ROOM
  pub marks : rooms.marks ≤ MAX_ROOM
