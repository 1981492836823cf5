-- What a player shows of what its workers have made.
use Rattle.std.specs.Prelude.{◌≡◌, ◌≢◌, ℕ, ◌+◌, ◌-◌, ◌^◌, ◌<◌, Option, Some, None, Bool, true, false, if◌then◌else◌, List, [], ◌∷◌, length, map, min, ltb, slice_index_or, count_by}
use Rattle.std.specs.FinSet.{contains}
use Rattle.rh_layout.specs.Layout.{Keys, keys_of}
use Rattle.rh_ledger.specs.declared.tally.Kind.{Kind}
use Rattle.rh_ledger.specs.declared.tally.Kind.TheVariants.{Insert, Remove, Ask}
use Rattle.rh_ledger.specs.Phase.{looked_up}
use Rattle.rh_ledger.specs.declared.tally.Tally.{Tally}
use Rattle.rh_acts.specs.Act.{changes}
use Rattle.rh_acts.specs.Workers.{Made, counted, how_many, sum_of_all}
use Rattle.rh_order.specs.Laws.{MomentSpec}
use Rattle.rh_order.specs.Words.{AreNow}
use Rattle.rh_turns.specs.declared.hand.Share.{Share}
use Rattle.rh_turns.specs.declared.hand.Share.TheVariants.{Piece, Claims}
use Rattle.rh_turns.specs.Hands.{positions}
use Rattle.rh_turns.specs.Game.{AllFinished, Game, at_hand, keep, run_of}
use Rattle.rh_turns.specs.Laws.{OutcomeSpec}

-- the set that the cells held when the player was made
abbrev pub held_first : Game → Keys
held_first g = keys_of g.opening

-- What the workers have made so far: the acts of the earlier rounds and of this one, which are the descriptors that succeeded;
-- and the answers of the keys of each worker, which it has done by its acts and by what it read.
pub record SoFar (g : Game) : Type 0 where
  pub before : List Made
  pub now : List Made
  pub own_answers : ℕ → List Bool
  pub stands : MomentSpec (run_of g own_answers) (held_first g) before now
  pub tells : OutcomeSpec g own_answers

-- At each moment: the cells stand for the layout of the first set changed by the acts so far, and the set reflects each key
-- that is done.
abbrev pub IsMadeSoFar : Game → (cells : List ℕ) → Type 0
IsMadeSoFar g cells = AreNow g.shape g.words (keep g) cells × SoFar g

-- ---- the tally

-- At each moment the tallies of all workers are summed up, each of the answers of its worker's keys so far. Where keys are
-- added or removed, these are as many as the acts that change a cell, among those by which it has done its keys.
pub record TallySpec (g : Game) (t : Tally) : Type 0 where
  pub so_far : SoFar g
  pub sums : t ≡ sum_of_all (λ v. counted g.kind (so_far.own_answers v)) g.shape.workers
  pub changed : g.kind ≢ Ask → (v : ℕ) → (mine : v < g.shape.workers) → how_many (so_far.own_answers v) ≡ count_by changes (so_far.stands.did v mine).acts

abbrev pub total : List ℕ → ℕ
total [] = 0
total (n ∷ ns) = n + total ns

-- how many keys are done, by all workers, and how many of them were added, removed or found
abbrev pub done_count : Game → ℕ
done_count g = total (map (λ h. length (positions g.shape h)) g.hands)

abbrev pub changed_count : Game → ℕ
changed_count g = total (map (λ h. h.changed) g.hands)

-- a count that ends at the greatest number of its type
abbrev pub cut : ℕ → ℕ
cut n = min n (2 ^ 64 - 1)

-- the key that a worker began last
abbrev pub key_of : Game → (worker : ℕ) → Option ℕ
key_of g = at_hand (λ h. Some h.worker.key) None g.hands

-- ---- the answers

abbrev pub is_asked : Kind → Bool
is_asked Insert = false
is_asked Remove = false
is_asked Ask = true

-- of the key at this position of the list of all keys
abbrev pub recorded_at : Game → (position : ℕ) → Option Bool
recorded_at g position = if is_asked g.kind then slice_index_or g.answers position None else None

-- of the key at this position of a worker's own keys
abbrev pub recorded_in : Game → Share → (position : ℕ) → Option Bool
recorded_in g (Piece first end) position = if ltb (first + position) end then recorded_at g (first + position) else None
recorded_in g (Claims last ended) position = None

abbrev pub recorded_of : Game → (worker position : ℕ) → Option Bool
recorded_of g worker position = at_hand (λ h. recorded_in g h.share position) None g.hands worker

abbrev pub is_claimed : Share → Bool
is_claimed (Piece first end) = false
is_claimed (Claims last ended) = true

-- whether all workers share one list
abbrev pub is_shared : Game → Bool
is_shared g = at_hand (λ h. is_claimed h.share) false g.hands 0

-- It is there just where the key is done, and says whether the first set held it.
abbrev pub IsAnswer : (S : Keys) (k : ℕ) (IsDone : Type 0) → Option Bool → Type 0
IsAnswer S k IsDone None = IsDone → ⊥
IsAnswer S k IsDone (Some answer) = IsDone × (answer ≡ contains S k)

-- that of one worker which does the whole list
abbrev pub AnswersAll : Game → (keys : List ℕ) → (position : ℕ) → Option Bool → Type 0
AnswersAll g keys position answer = AllFinished g → g.kind ≡ Ask → position < length keys → answer ≡ Some (slice_index_or (looked_up (held_first g) keys) position false)
