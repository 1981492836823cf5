-- The seat of one worker.
use Rattle.std.specs.Prelude.{◌≡◌, List}
use Rattle.rh_words.specs.View.{View}
use Rattle.rh_rule.specs.declared.rule.Sitter.{Sitter}
use Rattle.rh_rule.specs.Seats.{sitter}
use Rattle.rh_rule.specs.Traces.{Touch}
use Rattle.rh_shared.specs.declared.seat.Seat.{Seat}
use Rattle.rh_shared.specs.declared.table.Table.{Table}
use Rattle.rh_shared.specs.Traces.{trace_in}

-- what is kept of the seat's worker
abbrev pub view_of : Seat → View
view_of s = s.side.known.view

-- the steps that its worker made at the table in this round, the newest first
abbrev pub trace_of : Seat → List Touch
trace_of s = trace_in s.inner.me.0

abbrev pub sitter_of : Seat → Sitter
sitter_of s = sitter (view_of s) (trace_of s)

-- the seat is one worker's, at this table
pub record IsHere (t : Table) (s : Seat) : Type 0 where
  pub own : s.inner.table_id ≡ t.inner.shared.table_id
  pub alone : s.count ≡ 1

-- it is the same seat at the same table, of the same workers
pub record SitsSame (s then : Seat) : Type 0 where
  pub table : then.inner.table_id ≡ s.inner.table_id
  pub id : then.inner.id ≡ s.inner.id
  pub worker : then.side.worker ≡ s.side.worker
  pub count : then.count ≡ s.count

-- and it keeps the same own mark
pub record IsSame (s then : Seat) : Type 0 where
  pub sits : SitsSame s then
  pub open sits use *
  pub placed : then.placed ≡ s.placed
