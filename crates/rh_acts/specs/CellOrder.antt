-- The entries of a front in the order of their cells, where the front may go round the end of the table.
use Rattle.std.specs.Prelude.{ℕ, ◌-◌, ◌+◌, ◌<◌, ◌≡◌, List, length, slice_index, nat_lt, if◌then◌else◌}
use Rattle.std.specs.List.{slice_index_or}
use Rattle.rh_layout.specs.Round.{cell_ahead}
use Rattle.rh_layout.specs.declared.entry.Entry.{Entry}
use Rattle.rh_acts.specs.Act.{entry, Act}

-- how many of the m offsets from cell h on lie past the end
abbrev pub past_end : (n h m : ℕ) → ℕ
past_end n h m = h + m - n

-- which offset of the front has the t-th of its cells: those past the end come first
abbrev pub offset_at : (n h m t : ℕ) → ℕ
offset_at n h m t = if nat_lt t (past_end n h m) then n - h + t else t - past_end n h m

-- the entry of offset p
abbrev pub entry_of : (n h : ℕ) (olds news : List ℕ) (p : ℕ) → Entry
entry_of n h olds news p = entry (cell_ahead n h p) (slice_index olds p) (slice_index news p)

pub record IsInCellOrder (n h : ℕ) (act : Act) (olds news : List ℕ) : Type 0 where
  pub size : length act ≡ length olds
  pub at : (t : ℕ) (d : Entry) → t < length act → slice_index_or act t d ≡ entry_of n h olds news (offset_at n h (length olds) t)
