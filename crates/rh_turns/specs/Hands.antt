-- A worker of a player, and how far it has come with its keys.
use Rattle.std.specs.Prelude.{◌≡◌, ℕ, ◌+◌, ◌-◌, ◌<◌, ◌≤◌, ◌⊎◌, Option, Some, None, Bool, true, false, cond, List, [], ◌∷◌, ◌++◌, length, map, take, set, slice_index}
use Rattle.std.specs.List.{range_with_len}
use Rattle.rh_ledger.specs.declared.tally.Kind.{Kind}
use Rattle.rh_world.specs.World.{In}
use Rattle.rh_words.specs.declared.shape.Shape.{Shape}
use Rattle.rh_words.specs.declared.steps.StepKind.{StepKind}
use Rattle.rh_words.specs.declared.steps.StepKind.TheVariants as kind
use Rattle.rh_words.specs.View.{View, new_view}
use Rattle.rh_words.specs.Steps.{Allowed, Step, StepsTo}
use Rattle.rh_worker.specs.Makes.{MakesStep}
use Rattle.rh_carrier.specs.Relies.{Shows}
use Rattle.rh_order.specs.Advance.{Advances}
use Rattle.rh_worker.specs.Worker.{GivesUp, HasNoRoom, IsWorker}
use Rattle.rh_worker.specs.declared.stage.KeyStage.TheVariants as stage
use Rattle.rh_order.specs.Claimed.{claimed, FoundEnd}
use Rattle.rh_turns.specs.declared.hand.Hand.{Hand}
use Rattle.rh_turns.specs.declared.hand.Share.{Share}
use Rattle.rh_turns.specs.declared.hand.Share.TheVariants.{Piece, Claims}
use Rattle.rh_turns.specs.declared.turning.Turn.{Turn}
use Rattle.rh_turns.specs.declared.turning.Turn.TheVariants.{Did, Finished, Spent, NoSuchWorker}

-- what is kept of the worker
abbrev pub view_of : Hand → View
view_of h = h.worker.side.known.view

abbrev pub IsIdle : Hand → Type 0
IsIdle h = h.worker.stage ≡ stage.Idle

abbrev pub IsSpent : Hand → Type 0
IsSpent h = h.worker.stage ≡ stage.Spent

-- ---- its keys, by their positions in the list of all keys

-- those that are done, in the order in which they were
abbrev pub positions_of : Shape → Share → View → (done : ℕ) → List ℕ
positions_of z (Piece first end) v done = range_with_len first done
positions_of z (Claims last ended) v done = take done (claimed z v)

abbrev pub positions : Shape → Hand → List ℕ
positions z h = positions_of z h.share (view_of h) h.done

-- that of the key that it is at, or of the next one of its piece
abbrev pub position_of : Share → (done : ℕ) → ℕ
position_of (Piece first end) done = first + done
position_of (Claims last ended) done = last

abbrev pub position_now : Hand → ℕ
position_now h = position_of h.share h.done

-- it claims its keys
abbrev pub IsClaiming : Hand → Type 0
IsClaiming h = (last : ℕ) × (ended : Bool) × (h.share ≡ Claims last ended)

-- all keys that it may come to do: its piece, or the list that is shared
abbrev pub share_keys : (keys : List ℕ) → Share → List ℕ
share_keys keys (Piece first end) = map (slice_index keys) (range_with_len first (end - first))
share_keys keys (Claims last ended) = keys

abbrev pub keys_for : (keys : List ℕ) → Hand → List ℕ
keys_for keys h = share_keys keys h.share

abbrev pub done_keys : Shape → (keys : List ℕ) → Hand → List ℕ
done_keys z keys h = map (slice_index keys) (positions z h)

-- ---- what is so of it

abbrev pub IsAtEnd : Share → (done : ℕ) → Type 0
IsAtEnd (Piece first end) done = first + done ≡ end
IsAtEnd (Claims last ended) done = ended ≡ true

-- its done keys lie within its piece
abbrev pub IsDoneWithin : Share → (done : ℕ) → Type 0
IsDoneWithin (Piece first end) done = first + done ≤ end
IsDoneWithin (Claims last ended) done = Unit {0}

-- a key comes after those that are done
abbrev pub HasNext : Share → (done : ℕ) → Type 0
HasNext (Piece first end) done = first + done < end
HasNext (Claims last ended) done = ended ≡ false

-- all its keys are done
abbrev pub IsFinished : Hand → Type 0
IsFinished h = IsIdle h × IsAtEnd h.share h.done

-- it is at a key, which stands at this position of the list
pub record IsAtKey (keys : List ℕ) (h : Hand) : Type 0 where
  pub within : position_now h < length keys
  pub key : slice_index keys (position_now h) ≡ h.worker.key

-- the positions that it claimed are done, but for the last one while it is at that key
pub record HasClaimed (z : Shape) (h : Hand) (last : ℕ) (ended : Bool) : Type 0 where
  pub idle : IsIdle h → length (claimed z (view_of h)) ≡ h.done
  pub busy : IsIdle h ⊎ ((claimed z (view_of h) ≡ positions z h ++ last ∷ []) × (length (positions z h) ≡ h.done) × (ended ≡ false))
  pub within : ended ≡ false → (n : ℕ) → In n (view_of h).side.claims → n < z.keys
  pub end : ended ≡ true → FoundEnd z (view_of h)

abbrev pub IsShare : Shape → (keys : List ℕ) → Hand → Share → Type 0
IsShare z keys h (Piece first end) = (first + h.done ≤ end) × (end ≤ length keys) × (IsIdle h ⊎ (first + h.done < end))
IsShare z keys h (Claims last ended) = (z.keys ≡ length keys) × HasClaimed z h last ended

pub record IsHand (z : Shape) (kind : Kind) (keys : List ℕ) (h : Hand) : Type 0 where
  pub worker : IsWorker z h.worker
  pub kind_is : h.worker.kind ≡ kind
  pub share : IsShare z keys h h.share
  pub key : IsIdle h ⊎ IsAtKey keys h
  pub some : h.changed ≤ h.done

-- it has no key done, nor claimed, in a table whose cells have these words
pub record IsNew (kind : Kind) (z : Shape) (words : List ℕ) (v : ℕ) (h : Hand) : Type 0 where
  pub worker : IsWorker z h.worker
  pub kind_is : h.worker.kind ≡ kind
  pub idle : IsIdle h
  pub view : view_of h ≡ new_view words v
  pub done : h.done ≡ 0
  pub changed : h.changed ≡ 0

-- ---- a turn of it

-- what it has counted once a key has an answer
abbrev pub HasCounted : Hand → Option Bool → Hand → Type 0
HasCounted h None next = (next.done ≡ h.done) × (next.changed ≡ h.changed)
HasCounted h (Some answer) next = (next.done ≡ h.done + 1) × (next.changed ≡ h.changed + cond answer 1 0)

abbrev pub answered : (answers : List (Option Bool)) → (position : ℕ) → Option Bool → List (Option Bool)
answered answers position None = answers
answered answers position (Some answer) = set answers position (Some answer)

-- what a turn may change: the words of the table, the answers, and the worker whose turn it is
pub record Moment : Type 0 where
  pub words : List ℕ
  pub answers : List (Option Bool)
  pub hand : Hand

abbrev pub moment : (words : List ℕ) (answers : List (Option Bool)) (hand : Hand) → Moment
moment words answers hand = record { words = words; answers = answers; hand = hand }

-- what is so of a step that is made: between which words and what is kept of its worker, and which word it found
abbrev pub Making : Type 1
Making = Shape → Step → List ℕ → View → ℕ → List ℕ → View → Type 0

-- One step of this kind on the next key of a worker that is not spent; the key is done by it or is not. With the step that
-- closes a descriptor which the worker had withdrawn it is spent.
pub record StepsBy (made : Making) (z : Shape) (keys : List ℕ) (k : StepKind) (m next : Moment) : Type 0 where
  pub unspent : IsSpent m.hand → ⊥
  pub next_key : HasNext m.hand.share m.hand.done
  pub within : position_now m.hand < length keys
  pub makes : MakesStep Shows made z k m.words (view_of m.hand) next.words (view_of next.hand)
  pub done : Option Bool
  pub advances : Advances z m.hand.worker.kind (slice_index keys (position_now m.hand)) (view_of m.hand) (view_of next.hand) done
  pub gives_up : GivesUp (view_of m.hand) (view_of next.hand) → IsSpent next.hand
  pub share : next.hand.share ≡ m.hand.share
  pub counts : HasCounted m.hand done next.hand
  pub answers_are : next.answers ≡ answered m.answers (position_now m.hand) done

-- One Claim of a worker that is at no key.
pub record ClaimsBy (made : Making) (z : Shape) (m next : Moment) : Type 0 where
  pub idle : IsIdle m.hand
  pub word : ℕ
  pub allowed : Allowed z (view_of m.hand) Step.claims
  pub steps : made z Step.claims m.words (view_of m.hand) word next.words (view_of next.hand)
  pub claiming : IsClaiming m.hand × IsClaiming next.hand
  pub counts : (next.hand.done ≡ m.hand.done) × (next.hand.changed ≡ m.hand.changed)
  pub answers_are : next.answers ≡ m.answers

-- Nothing was changed.
abbrev pub IsSame : (m next : Moment) → Type 0
IsSame m next = (next.words ≡ m.words) × (next.answers ≡ m.answers) × (next.hand ≡ m.hand)

abbrev pub TurnsBy : (made : Making) → Shape → (keys : List ℕ) → (m : Moment) → Turn → (next : Moment) → Type 0
TurnsBy made z keys m (Did k) next = StepsBy made z keys k m next ⊎ ((k ≡ kind.Claim) × ClaimsBy made z m next)
TurnsBy made z keys m Finished next = IsSame m next × IsFinished m.hand
TurnsBy made z keys m Spent next = IsSame m next × IsSpent m.hand × HasNoRoom z (view_of m.hand)
TurnsBy made z keys m NoSuchWorker next = ⊥

-- The step was made, whatever else is so of it.
abbrev pub StepsOn : Shape → (keys : List ℕ) → StepKind → (m next : Moment) → Type 0
StepsOn z keys k m next = StepsBy StepsTo z keys k m next

abbrev pub ClaimsOn : Shape → (m next : Moment) → Type 0
ClaimsOn z m next = ClaimsBy StepsTo z m next

abbrev pub TurnsOn : Shape → (keys : List ℕ) → (m : Moment) → Turn → (next : Moment) → Type 0
TurnsOn z keys m turn next = TurnsBy StepsTo z keys m turn next
