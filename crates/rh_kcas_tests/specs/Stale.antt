-- A worker that has met another one's descriptor while that was undecided.
use Rattle.rh_words.specs.declared.reference.Ref.{Ref}
use Rattle.rh_shared.specs.Rests.{SeatRests}
use Rattle.rh_shared.specs.Seats.{view_of}
use Rattle.rh_rdcss.specs.Placing.{HasEntry, MayPlace}
use Rattle.rh_shared.specs.declared.seat.Seat.{Seat}
use Rattle.rh_shared.specs.declared.table.Table.{Table}

-- it rests, and saw it as opened
pub record HasSeenDesc (t : Table) (s : Seat) (d : Ref) : Type 0 where
  pub rests : SeatRests t s
  pub may : MayPlace t.shape (view_of s) d

-- and may place a mark for its first entry
pub record HasMet (t : Table) (s : Seat) (d : Ref) : Type 0 where
  pub rests : SeatRests t s
  pub entry : HasEntry t.shape (view_of s) d 0
