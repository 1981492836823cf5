-- A player, as its calls see it: the table, the keys, and the workers with what each has done of them.
use Rattle.std.specs.Prelude.{zero, suc, ◌≡◌, ℕ, ◌<◌, ◌≤◌, ◌⊎◌, Option, Some, None, Bool, false, List, [], ◌∷◌, length, map, slice_index, slice_index_or, All}
use Rattle.rh_layout.specs.Key.{IsKey}
use Rattle.rh_layout.specs.Layout.{IsLayout, keys_of}
use Rattle.rh_ledger.specs.declared.tally.Kind.{Kind}
use Rattle.rh_words.specs.declared.shape.Shape.{Shape}
use Rattle.rh_words.specs.View.{View, new_view}
use Rattle.rh_acts.specs.Workers.{LeavesRoom, how_many}
use Rattle.rh_order.specs.Run.{Run, RunInvariant}
use Rattle.rh_turns.specs.declared.hand.Hand.{Hand}
use Rattle.rh_turns.specs.declared.hand.Share.{Share}
use Rattle.rh_turns.specs.declared.hand.Share.TheVariants.{Piece}
use Rattle.rh_turns.specs.Hands.{IsClaiming, IsFinished, IsHand, IsSpent, done_keys, keys_for, positions, view_of}

pub record Game : Type 0 where
  pub kind : Kind
  pub shape : Shape
  -- what the cells held when the player was made, and the words of the table now
  pub opening : List ℕ
  pub words : List ℕ
  -- the keys of all workers, in one list, and the answer to each that was asked for
  pub keys : List ℕ
  pub answers : List (Option Bool)
  pub hands : List Hand

-- of the worker of this number
abbrev pub at_hand : {A : Type 0} → (Hand → A) → (default : A) → List Hand → (v : ℕ) → A
at_hand f default [] v = default
at_hand f default (h ∷ hs) zero = f h
at_hand f default (h ∷ hs) (suc v) = at_hand f default hs v

abbrev pub keep : Game → (v : ℕ) → View
keep g = at_hand view_of (new_view [] 0) g.hands

abbrev pub keys_at : Game → (v : ℕ) → List ℕ
keys_at g = at_hand (keys_for g.keys) [] g.hands

abbrev pub done_at : Game → (v : ℕ) → List ℕ
done_at g = at_hand (done_keys g.shape g.keys) [] g.hands

abbrev pub positions_at : Game → (v : ℕ) → List ℕ
positions_at g = at_hand (positions g.shape) [] g.hands

abbrev pub changed_at : Game → (v : ℕ) → ℕ
changed_at g = at_hand (λ h. h.changed) 0 g.hands

-- how far all have come, where the keys of each have these answers
abbrev pub run_of : Game → (own_answers : ℕ → List Bool) → Run
run_of g own_answers = record {
  kind = g.kind;
  shape = g.shape;
  opening = g.opening;
  words = g.words;
  keep = keep g;
  keys = keys_at g;
  done = done_at g;
  answers = own_answers;
}

-- a worker has done the key at this position of the list
abbrev pub IsDoneAt : Game → (position : ℕ) → Type 0
IsDoneAt g p = (v j : ℕ) × (v < g.shape.workers) × (j < length (positions_at g v)) × (slice_index (positions_at g v) j ≡ p)

-- ---- how the keys are dealt

-- the shares are pieces that follow one another in a list, from this position to its end
abbrev pub ArePieces : (from : ℕ) → List Share → (count : ℕ) → Type 0
ArePieces from [] count = from ≡ count
ArePieces from (s ∷ ss) count = (end : ℕ) × (s ≡ Piece from end) × (from ≤ end) × ArePieces end ss count

abbrev pub shares_of : List Hand → List Share
shares_of hands = map (λ h. h.share) hands

-- each worker has a piece, or all share the list
abbrev pub IsDealt : Game → Type 0
IsDealt g = ArePieces 0 (shares_of g.hands) (length g.keys) ⊎ All IsClaiming g.hands

-- ---- what is so of it between two calls

pub record Plays (g : Game) : Type 0 where
  pub workers : length g.hands ≡ g.shape.workers
  pub opening : IsLayout g.shape.bits g.opening
  pub room : LeavesRoom g.kind g.shape.bits (keys_of g.opening) g.keys
  pub keys : All IsKey g.keys
  pub answers : length g.answers ≡ length g.keys
  pub hands : All (IsHand g.shape g.kind g.keys) g.hands
  pub dealt : IsDealt g
  -- the answers of the keys that the workers have done, of each worker in the order in which it did them
  pub own_answers : ℕ → List Bool
  pub running : RunInvariant (run_of g own_answers)
  pub changed : (v : ℕ) → v < g.shape.workers → changed_at g v ≡ how_many (own_answers v)
  pub answered : (v j : ℕ) → v < g.shape.workers → j < length (own_answers v)
      → slice_index_or g.answers (slice_index (positions_at g v) j) None ≡ Some (slice_index_or (own_answers v) j false)
  pub unanswered : (p : ℕ) → (IsDoneAt g p → ⊥) → slice_index_or g.answers p None ≡ None

-- all keys of all workers are done
abbrev pub AllFinished : Game → Type 0
AllFinished g = All IsFinished g.hands

-- no worker has a step left in this round
abbrev pub AllStopped : Game → Type 0
AllStopped g = All (λ h. IsFinished h ⊎ IsSpent h) g.hands
