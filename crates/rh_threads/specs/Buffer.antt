-- Room for what a worker sees of the table.
use Rattle.std.specs.Prelude.{◌≡◌, ℕ, ◌^◌, ◌<◌, ◌≤◌, length, List}
use Rattle.std.specs.Vec.{vec_capacity}
use Rattle.rh_layout.specs.declared.entry.Entry.{Entry}
use Rattle.rh_threads.specs.declared.buffer.Buffer.{Buffer}

-- room for each cell of the table
pub record HasCapacity (b : ℕ) (r : Buffer) : Type 0 where
  pub seen : 2 ^ b ≤ vec_capacity r.seen
  pub entries : 2 ^ b ≤ vec_capacity r.entries

-- room for some cells of the table: for what they hold, and for as many entries
pub record IsRoom (b : ℕ) (seen : List ℕ) (entries : List Entry) : Type 0 where
  pub few : length seen ≤ 2 ^ b
  pub as_many : length entries ≡ length seen

-- and some of it is in use
pub record HasBufferRoom (b : ℕ) (r : Buffer) : Type 0 where
  pub capacity : HasCapacity b r
  pub open capacity use *
  pub some : 0 < length r.seen.items
  pub room : IsRoom b r.seen.items r.entries.items
  pub open room use *
