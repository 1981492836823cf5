-- Why no player is made, and what one is that was made.
use Rattle.std.specs.Prelude.{◌≡◌, ℕ, ◌+◌, ◌^◌, ◌<◌, ◌≤◌, Option, Some, None, Bool, if◌then◌else◌, ◌&&◌, not, List, length, nat_le, count_by, slice_index_or, All, Result, Ok, Err, Vec}
use Rattle.std.specs.List.{flat_map, list_all}
use Rattle.std.specs.Global.{Global}
use Rattle.rh_layout.specs.Key.{is_full}
use Rattle.rh_layout.specs.Test.{layout_test}
use Rattle.rh_layout.specs.declared.limits.TheConstants.{MAX_KEY}
use Rattle.rh_ledger.specs.declared.tally.Kind.{Kind}
use Rattle.rh_ledger.specs.Phase.{most_added}
use Rattle.rh_words.specs.declared.limits.TheConstants.{MAX_ROOM, MAX_WORKERS}
use Rattle.rh_words.specs.declared.shape.Rooms.{Rooms}
use Rattle.rh_words.specs.declared.shape.Shape.{Shape}
use Rattle.rh_turns.specs.Game.{Game, keys_at}
use Rattle.rh_turns.specs.Laws.{GameStarts, WillClaim}
use Rattle.rh_interleaving.specs.declared.fault.PlayFault.{PlayFault}
use Rattle.rh_interleaving.specs.declared.fault.PlayFault.TheVariants.{NotALayout, NoRoom, BadWorkers, BadKey, Memory}

-- ---- why none is made

-- of the table and the workers, where so many keys may be added
abbrev pub table_fault : (bits : ℕ) (cells : List ℕ) (workers more : ℕ) → Option PlayFault
table_fault bits cells workers more =
    if not (layout_test bits cells) then Some NotALayout
    else if nat_le (2 ^ bits) (count_by is_full cells + more) then Some NoRoom
    else if not (nat_le 1 workers && nat_le workers MAX_WORKERS) then Some BadWorkers
    else None

abbrev pub are_keys : List ℕ → Bool
are_keys keys = list_all (λ k. nat_le k MAX_KEY) keys

abbrev pub then_keys : Option PlayFault → List ℕ → Option PlayFault
then_keys (Some fault) keys = Some fault
then_keys None keys = if are_keys keys then None else Some BadKey

-- the first of the faults, but for want of memory
abbrev pub start_fault : Kind → (bits : ℕ) (cells : List ℕ) (workers : ℕ) (keys : List ℕ) → Option PlayFault
start_fault kind bits cells workers keys = then_keys (table_fault bits cells workers (most_added kind keys)) keys

-- Want of memory is a fault where there is no other.
abbrev pub Refuses : Option PlayFault → PlayFault → Type 0
Refuses None fault = fault ≡ Memory
Refuses (Some first) fault = fault ≡ first

-- ---- what one is

abbrev pub IsRooms : Rooms → Type 0
IsRooms rooms = (rooms.descriptors ≤ MAX_ROOM) × (rooms.marks ≤ MAX_ROOM)

-- The shape has these sizes, with this length of the list that is shared, 0 if none is.
pub record HasSizes (bits workers : ℕ) (rooms : Rooms) (shared : ℕ) (z : Shape) : Type 0 where
  pub bits_are : z.bits ≡ bits
  pub workers_are : z.workers ≡ workers
  pub rooms_are : z.rooms ≡ rooms
  pub shared_is : z.keys ≡ shared

-- It does these keys on a table of these cells, and no step is made yet.
pub record StartsWith (kind : Kind) (cells keys : List ℕ) (g : Game) : Type 0 where
  pub kind_is : g.kind ≡ kind
  pub opening_is : g.opening ≡ cells
  pub keys_are : g.keys ≡ keys
  pub starts : GameStarts g

-- the keys of all pieces, one piece after the other
abbrev pub keys_of_pieces : List (Vec ℕ Global) → List ℕ
keys_of_pieces pieces = flat_map (λ piece. piece.items) pieces

-- each worker has its piece
pub record StartsPieces (kind : Kind) (bits : ℕ) (rooms : Rooms) (cells : List ℕ) (pieces : List (Vec ℕ Global)) (g : Game) : Type 0 where
  pub sizes : HasSizes bits (length pieces) rooms 0 g.shape
  pub start : StartsWith kind cells (keys_of_pieces pieces) g
  pub pieces_are : (v : ℕ) (other : Vec ℕ Global) → v < length pieces → keys_at g v ≡ (slice_index_or pieces v other).items

-- so many workers claim the keys
pub record StartsShared (kind : Kind) (bits workers : ℕ) (rooms : Rooms) (cells keys : List ℕ) (g : Game) : Type 0 where
  pub sizes : HasSizes bits workers rooms (length keys) g.shape
  pub start : StartsWith kind cells keys g
  pub claims : All WillClaim g.hands

-- what comes of a call that makes a player
abbrev pub MakesPlayer : Option PlayFault → (Game → Type 0) → Result Game PlayFault → Type 0
MakesPlayer fault IsMade (Ok g) = (fault ≡ None) × IsMade g
MakesPlayer fault IsMade (Err given) = Refuses fault given
