-- What the workers of a phase have done of a list that they share.
use Rattle.std.specs.Prelude.{◌≡◌, ℕ, ◌-◌, ◌^◌, ◌<◌, ◌⊎◌, ◌↔◌, Bool, cond, true, false, min, List, [], ◌∷◌, ◌++◌, length, map, slice_index, slice_index_or}
use Rattle.std.specs.List.{Contains}
use mathlib.Core.Option.{some}
use lib.ListN.{get_elem?}
use Rattle.rh_ledger.specs.declared.tally.Kind.{Kind}
use Rattle.rh_world.specs.World.{In}
use Rattle.rh_acts.specs.Act.{Act}
use Rattle.rh_acts.specs.Done.{Kept}
use Rattle.rh_acts.specs.Workers.{how_many}
use Rattle.rh_rule.specs.declared.rule.Sitter.{Sitter}
use Rattle.rh_words.specs.declared.shape.Shape.{Shape}
use Rattle.rh_words.specs.View.{View}
use Rattle.rh_order.specs.Claimed.{FoundEnd, claimed}
use Rattle.rh_order.specs.Run.{Progress, ProgressInvariant}
use Rattle.rh_worker.specs.Worker.{HasNoRoom}
use Rattle.rh_threads.specs.Buffer.{HasBufferRoom}
use Rattle.rh_threads.specs.declared.hand.Hand.{Hand}

-- ---- a hand

-- no Claim of it found the end, or one did, as it says
pub record HasClaimed (z : Shape) (h : Hand) (v : View) : Type 0 where
  pub below : h.ended ≡ false → (n : ℕ) → In n v.side.claims → n < z.keys
  pub ended : h.ended ≡ true → FoundEnd z v

-- it has room for any key, and where it has one to do, this is a key of the list
pub record IsHand (z : Shape) (keys : List ℕ) (h : Hand) (v : View) : Type 0 where
  pub room : HasBufferRoom z.bits h.buffer
  pub within : h.has_key ≡ true → h.position < length keys
  pub claims : HasClaimed z h v

-- all keys that it claimed are done, and no key is left to claim
pub record IsFinished (h : Hand) : Type 0 where
  pub no_key : h.has_key ≡ false
  pub ended : h.ended ≡ true

-- why it does no more in this round: all is done, or a room of it is used up
abbrev pub HasStopped : Shape → Hand → View → Type 0
HasStopped z h v = IsFinished h ⊎ HasNoRoom z v

-- ---- what it did

-- the answer of the key at a position of the list
pub record KeyAnswer : Type 0 where
  pub position : ℕ
  pub answer : Bool

abbrev pub answer_at : (position : ℕ) (answer : Bool) → KeyAnswer
answer_at p so = record { position = p; answer = so }

abbrev pub positions_of : List KeyAnswer → List ℕ
positions_of answers = map (λ a. a.position) answers

abbrev pub without_positions : List KeyAnswer → List Bool
without_positions answers = map (λ a. a.answer) answers

abbrev pub keys_done : (keys : List ℕ) → List KeyAnswer → List ℕ
keys_done keys answers = map (λ a. slice_index keys a.position) answers

-- the position of the key that it has to do
abbrev pub left_over : (has_key : Bool) (position : ℕ) → List ℕ
left_over has_key p = cond has_key (p ∷ []) []

-- The positions that it claimed are those of its answers, in their order, and then that of the key that it has to do. It counts the
-- answers, and those that are true, up to the greatest number, and has marked the positions of these.
pub record Answered (z : Shape) (h : Hand) (v : View) (answers : List KeyAnswer) : Type 0 where
  pub claimed_are : claimed z v ≡ positions_of answers ++ left_over h.has_key h.position
  pub done_are : h.done ≡ min (length answers) (2 ^ 64 - 1)
  pub counts : h.changed ≡ min (how_many (without_positions answers)) (2 ^ 64 - 1)
  pub marks : (p : ℕ) → p < length h.found.items → (slice_index_or h.found.items p false ≡ true) ↔ Contains answers (answer_at p true)

-- the kind of the phase, how many positions may be marked, and of the rounds before this one: the cells at their end, and
-- what the worker did and read in them
pub record Past : Type 0 where
  pub kind : Kind
  pub positions : ℕ
  pub opening : List ℕ
  pub acts : List Act
  pub reads : List Kept

-- how far the worker has come with a list of keys, by these answers
abbrev pub progress_by : (keys : List ℕ) → Past → View → List KeyAnswer → Progress
progress_by keys past v answers =
    record { view = v; keys = keys; acts = past.acts; reads = past.reads; done = keys_done keys answers; answers = without_positions answers }

-- The worker has come as far as its hand says.
pub record HandStands (z : Shape) (keys : List ℕ) (past : Past) (h : Hand) (v : View) : Type 0 where
  pub kind_is : h.kind ≡ past.kind
  pub answers : List KeyAnswer
  pub doing : ProgressInvariant z h.kind (progress_by keys past v answers)
  pub answered : Answered z h v answers
  pub opening : v.opening ≡ past.opening
  pub long : length h.found.items ≡ past.positions

-- ---- all hands of a seat, whose view has the worker of each

abbrev pub InPairs : (View → Hand → Type 0) → List Sitter → List Hand → Type 0
InPairs P vs hs = (r : ℕ) (s : Sitter) (h : Hand) → get_elem? vs r ≡ some s → get_elem? hs r ≡ some h → P s.view h

-- Each worker has come as far as its hand says, over these pasts.
abbrev pub AllStand : Shape → (keys : List ℕ) → (past : ℕ → Past) → List Sitter → List Hand → Type 0
AllStand z keys past vs hs = InPairs (λ v h. HandStands z keys (past v.worker) h v) vs hs
