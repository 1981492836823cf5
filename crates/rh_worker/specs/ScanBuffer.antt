-- Room for what a worker sees of the cells from a key's home on.
use Rattle.std.specs.Prelude.{◌≡◌, ℕ, ◌^◌, ◌≤◌, length, slice_index}
use Rattle.std.specs.Vec.{vec_capacity}
use Rattle.rh_tagword.specs.Word.{IsValue}
use Rattle.rh_worker.specs.declared.scan_buffer.ScanBuffer.{ScanBuffer}

-- room for what each cell holds, and for an entry of each; of it so much was in use as the longest scan took
pub record HasRoom (b : ℕ) (s : ScanBuffer) : Type 0 where
  pub seen : 2 ^ b ≤ vec_capacity s.seen
  pub entries : 2 ^ b ≤ vec_capacity s.entries
  pub few : length s.seen.items ≤ 2 ^ b
  pub as_many : length s.entries.items ≡ length s.seen.items
  pub values : (p : ℕ) → IsValue (slice_index s.seen.items p)
