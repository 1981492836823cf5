-- The game with which a play begins, and why there is none.
use Rattle.std.specs.Prelude.{◌≡◌, ℕ, ◌^◌, ◌≤◌, not, nat_lt, if◌then◌else◌, Option, Some, None, MatchOption, List, length, replicate}
use Rattle.std.specs.FinSet as set
use Rattle.rh_layout.specs.declared.limits.TheConstants.{MAX_BITS}
use Rattle.rh_layout.specs.Layout.{Keys, Layout}
use Rattle.rh_words.specs.Parts.{usual_rooms}
use Rattle.rh_words.specs.declared.shape.Rooms.{Rooms}
use Rattle.rh_turns.specs.Game.{Game}
use Rattle.rh_interleaving.specs.declared.fault.PlayFault.{PlayFault}
use Rattle.rh_interleaving.specs.declared.fault.PlayFault.TheVariants.{BadKey, NoRoom}
use Rattle.rh_interleaving.specs.Start.{Refuses, StartsPieces, StartsShared, are_keys, keys_of_pieces, start_fault}
use Rattle.rh_play_text.specs.declared.play.Play.{Play}
use Rattle.rh_play_text.specs.declared.play.PlayRooms as said
use Rattle.rh_play_text.specs.declared.play.Work.TheVariants.{Pieces, Share}
use Rattle.rh_play_text.specs.declared.play.Work.{Work}

-- ---- what a play says

abbrev pub bits_of : Play → ℕ
bits_of play = play.bits.value

-- the set of the keys that the table holds at first
abbrev pub held_of : Play → Keys
held_of play = set.from_list play.held.items

abbrev pub workers_in : Work → ℕ
workers_in (Pieces pieces) = length pieces.items
workers_in (Share workers keys) = workers

-- the keys of all workers
abbrev pub work_keys : Work → List ℕ
work_keys (Pieces pieces) = keys_of_pieces pieces.items
work_keys (Share workers keys) = keys.items

-- the rooms that are said, or the usual ones
abbrev pub rooms_in : Option said.PlayRooms → Rooms
rooms_in None = usual_rooms
rooms_in (Some rooms) = record { descriptors = rooms.descriptors; marks = rooms.marks }

-- ---- why a play does not begin

-- the first fault of the keys held, repeats counted
abbrev pub held_fault : (bits : ℕ) (keys : List ℕ) → Option PlayFault
held_fault bits keys =
    if not (are_keys keys) then Some BadKey
    else if not (nat_lt (length keys) (2 ^ bits)) then Some NoRoom
    else None

-- the first fault of the player, on these cells
abbrev pub player_fault : Play → (cells : List ℕ) → Option PlayFault
player_fault play cells = start_fault play.kind (bits_of play) cells (workers_in play.work) (work_keys play.work)

-- the first fault of the player on the layout of the keys held, if there is one
abbrev pub IsPlayerFault : Play → Option PlayFault → Type 0
IsPlayerFault play first = (cells : List ℕ) × Layout cells (bits_of play) (held_of play) × (player_fault play cells ≡ first)

-- The first fault of the start, if there is one. Those of the keys held come before those of the player.
abbrev pub IsStartFault : Play → Option PlayFault → Type 0
IsStartFault play first = MatchOption (held_fault (bits_of play) play.held.items) (IsPlayerFault play first) (λ fault. first ≡ Some fault)

-- The start has no fault.
abbrev pub CanBegin : Play → Type 0
CanBegin play = IsStartFault play None

-- The start is refused by its first fault, or, where it has none, for want of memory.
abbrev pub IsRefusedStart : Play → PlayFault → Type 0
IsRefusedStart play fault = (first : Option PlayFault) × IsStartFault play first × Refuses first fault

-- ---- how it begins

-- empty cells, enough for a table of any size
abbrev pub IsBlank : List ℕ → Type 0
IsBlank cells = (cells ≡ replicate (length cells) 0) × (2 ^ MAX_BITS ≤ length cells)

-- each worker has its piece, or all claim their keys; no step is made yet
abbrev pub StartsOn : (cells : List ℕ) → Play → Work → Game → Type 0
StartsOn cells play (Pieces pieces) g = StartsPieces play.kind (bits_of play) (rooms_in play.rooms) cells pieces.items g
StartsOn cells play (Share workers keys) g = StartsShared play.kind (bits_of play) workers (rooms_in play.rooms) cells keys.items g

-- There is no fault, and the table is the layout of the keys held.
pub record BeginsPlay (play : Play) (g : Game) : Type 0 where
  pub cells : List ℕ
  pub held : held_fault (bits_of play) play.held.items ≡ None
  pub layout : Layout cells (bits_of play) (held_of play)
  pub player : player_fault play cells ≡ None
  pub starts : StartsOn cells play play.work g
