-- A key put into a segment of a table, or taken out of one.
use Rattle.std.specs.Prelude.{ℕ, ◌+◌, ◌^◌, ◌≡◌, List, length}
use Rattle.rh_layout.specs.Key.{cell_of}
use Rattle.rh_layout.specs.Order.{home_of}
use Rattle.rh_probe.specs.Look.{Finds}
use Rattle.rh_probe.specs.Segment.{IsFront, IsFirstFree, IsFirstStop, ReplacesFront}
use Rattle.rh_probe.specs.declared.answer.Look.TheVariants.{Here, Goes}
use Rattle.rh_edit.specs.News.{inserted_at, shifted_back}

-- `seen` is the segment from the home of k to the first empty cell, and `new` is `old` with k put into it where it goes
pub record InsertsIn (b k : ℕ) (old new seen : List ℕ) : Type 0 where
  pub offset : ℕ
  pub last : ℕ
  pub front : IsFront (2 ^ b) (home_of b k) old seen
  pub goes : Finds b k seen (Goes offset)
  pub free : IsFirstFree seen offset last
  pub ends : last + 1 ≡ length seen
  pub written : ReplacesFront (2 ^ b) (home_of b k) old new (inserted_at (cell_of k) seen offset)

-- `seen` is the segment from the home of k to the first cell after k that is empty or holds a key at its home, and `new`
-- is `old` with k taken out of it
pub record RemovesFrom (b k : ℕ) (old new seen : List ℕ) : Type 0 where
  pub offset : ℕ
  pub last : ℕ
  pub front : IsFront (2 ^ b) (home_of b k) old seen
  pub here : Finds b k seen (Here offset)
  pub stop : IsFirstStop b (home_of b k) seen offset last
  pub ends : last + 1 ≡ length seen
  pub written : ReplacesFront (2 ^ b) (home_of b k) old new (shifted_back seen offset)
