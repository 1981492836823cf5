-- What the laws of this crate say.
use Rattle.std.specs.Prelude.{◌≡◌, ℕ, ◌+◌, ◌<◌, ◌≤◌, Option, None, Bool, true, false, List, [], ◌++◌, length, map, replicate, slice_index}
use Rattle.std.specs.List.{Contains}
use Rattle.std.specs.FinSet.{contains}
use Rattle.rh_layout.specs.Layout.{Keys, Layout}
use Rattle.rh_ledger.specs.declared.tally.Kind.{Kind}
use Rattle.rh_ledger.specs.declared.tally.Kind.TheVariants.{Insert, Remove, Ask}
use Rattle.rh_ledger.specs.Phase.{set_after, tally_of, looked_up}
use Rattle.rh_tagword.specs.Word.{plain_number}
use Rattle.rh_world.specs.World.{World, updated}
use Rattle.rh_world.specs.World.Control.{succeeded, undecided}
use Rattle.rh_world.specs.Acts.{cells_after}
use Rattle.rh_words.specs.declared.shape.Shape.{Shape}
use Rattle.rh_words.specs.Parts.{cell_count}
use Rattle.rh_words.specs.View.{View, new_view, round_view}
use Rattle.rh_words.specs.Words.{cell_in, control_word_of}
use Rattle.rh_words.specs.Steps.{Allowed, Step, StepsTo, noted}
use Rattle.rh_rule.specs.Core.{Core}
use Rattle.rh_rule.specs.Rest.{AllRest}
use Rattle.rh_rule.specs.Sound.{Sound}
use Rattle.rh_rule.specs.Wipes.{row_total}
use Rattle.rh_acts.specs.Act.{Act, AllMeet, apply_acts, changes}
use Rattle.rh_acts.specs.Done.{IsDone, Kept, WereTrue}
use Rattle.rh_acts.specs.Workers.{AreOf, LeavesRoom, Made, acts_of, counted, joined, own, piece, sum_of_all}
use Rattle.rh_order.specs.History.{history, kept_of, own_acts_of, value_of}
use Rattle.rh_order.specs.Advance.{Advances}
use Rattle.rh_order.specs.Known.{KnowsHeld}
use Rattle.rh_order.specs.Run.{Progress, ProgressInvariant, Run, RunInvariant, also_done, also_answered, progress}
use Rattle.rh_order.specs.Words.{AreNow, IsLogicalWord, IsWiped, LeadsInside, cells_held, succeeded_now}
use Rattle.rh_order.specs.Claimed.{FoundEnd, claimed}

-- ---- how one worker goes on, by its own steps alone

-- it has done nothing yet
abbrev pub not_begun : View → (keys : List ℕ) → Progress
not_begun v keys = record { view = v; keys = keys; acts = []; reads = []; done = []; answers = [] }

-- one key more, where there is an answer
abbrev pub furthered : Progress → (next : View) → (k : ℕ) → (answer : Option Bool) → Progress
furthered p next k answer = record p { view = next; done = also_done p.done k answer; answers = also_answered p.answers answer }

-- in a further round what it did and read is of an earlier one
abbrev pub turned_over : Shape → (cells : List ℕ) → Progress → Progress
turned_over z cells p = record p { view = round_view cells p.view; acts = p.acts ++ own_acts_of p.view; reads = p.reads ++ kept_of z p.view }

-- It starts with nothing done.
abbrev pub WorkerStarts : Type 0
WorkerStarts = (kind : Kind) (z : Shape) (cells : List ℕ) (worker : ℕ) (keys : List ℕ) → ProgressInvariant z kind (not_begun (new_view cells worker) keys)

-- A step at one of its keys, where what the step leaves noted is sound, as each step tells its worker.
abbrev pub WorkerSteps : Type 0
WorkerSteps = (kind : Kind) (z : Shape) (p : Progress) (s : Step) (word : ℕ) (next : View) (k : ℕ) (answer : Option Bool)
    → Allowed z p.view s → next ≡ noted z p.view s word → Sound z next → Contains p.keys k → Advances z kind k p.view next answer
    → ProgressInvariant z kind p → ProgressInvariant z kind (furthered p next k answer)

-- A Claim does nothing of a key.
abbrev pub WorkerClaims : Type 0
WorkerClaims = (kind : Kind) (z : Shape) (p : Progress) (word : ℕ) (next : View)
    → Allowed z p.view Step.claims → next ≡ noted z p.view Step.claims word → Sound z next
    → ProgressInvariant z kind p → ProgressInvariant z kind (record p { view = next })

-- A further round.
abbrev pub WorkerTurns : Type 0
WorkerTurns = (kind : Kind) (z : Shape) (cells : List ℕ) (p : Progress) → ProgressInvariant z kind p → ProgressInvariant z kind (turned_over z cells p)

-- ---- how a run goes on

-- from these cells, in a table that was just made
abbrev pub started : Kind → Shape → (cells : List ℕ) → (keys : ℕ → List ℕ) → Run
started kind z cells keys = record {
  kind = kind;
  shape = z;
  opening = cells;
  words = map plain_number cells ++ replicate (row_total z + 1) 0;
  keep = new_view (map plain_number cells);
  keys = keys;
  done = λ v. [];
  answers = λ v. [];
}

-- a step of one worker, after which these are the words, and this is kept of the worker
abbrev pub stepped : Run → (then : List ℕ) (who : ℕ) (next : View) → Run
stepped r then who next = record r { words = then; keep = updated r.keep who next }

-- and one key of it more, where there is an answer
abbrev pub also_done_by : Run → (who k : ℕ) (answer : Option Bool) → Run
also_done_by r who k answer =
    record r { done = updated r.done who (also_done (r.done who) k answer); answers = updated r.answers who (also_answered (r.answers who) answer) }

-- It starts from any cells, with nothing done.
abbrev pub RunStarts : Type 0
RunStarts = (kind : Kind) (z : Shape) (cells : List ℕ) (keys : ℕ → List ℕ) → length cells ≡ cell_count z → RunInvariant (started kind z cells keys)

-- In a round it comes as far as its workers: it is enough that the table is ruled, and opened as one of them kept it.
abbrev pub RunGathers : Type 0
RunGathers = (r : Run) (run : RunInvariant r) (then : List ℕ) (next : ℕ → View) (done : ℕ → List ℕ) (answers : ℕ → List Bool) (w : World) (who : ℕ)
    → Core w r.shape then next → who < r.shape.workers → (next who).opening ≡ (r.keep who).opening
    → ((v : ℕ) → v < r.shape.workers
    → ProgressInvariant r.shape r.kind (progress (record r { words = then; keep = next; done = done; answers = answers }) run.before run.reads v))
    → RunInvariant (record r { words = then; keep = next; done = done; answers = answers })

-- A step of a worker that is at one of its keys.
abbrev pub RunSteps : Type 0
RunSteps = (r : Run) (who : ℕ) (s : Step) (word : ℕ) (then : List ℕ) (next : View) (k : ℕ) (answer : Option Bool)
    → who < r.shape.workers → Allowed r.shape (r.keep who) s → StepsTo r.shape s r.words (r.keep who) word then next
    → Contains (r.keys who) k → Advances r.shape r.kind k (r.keep who) next answer
    → RunInvariant r → RunInvariant (also_done_by (stepped r then who next) who k answer)

-- A Claim.
abbrev pub RunClaims : Type 0
RunClaims = (r : Run) (who word : ℕ) (then : List ℕ) (next : View)
    → who < r.shape.workers → Allowed r.shape (r.keep who) Step.claims
    → StepsTo r.shape Step.claims r.words (r.keep who) word then next
    → RunInvariant r → RunInvariant (stepped r then who next)

-- A further round, where all are at rest.
abbrev pub RunRounds : Type 0
RunRounds = (r : Run) (then cells : List ℕ) → AllRest r.shape r.keep
    → ((c : ℕ) → c < cell_count r.shape → slice_index r.words c ≡ slice_index cells c) → IsWiped r.shape r.words then
    → RunInvariant r → RunInvariant (record r { words = then; keep = λ v. round_view cells (r.keep v) })

-- worker v is the same in both
pub record AreAlike (r s : Run) (v : ℕ) : Type 0 where
  pub kept : r.keep v ≡ s.keep v
  pub keys_are : r.keys v ≡ s.keys v
  pub done_are : r.done v ≡ s.done v
  pub answers_are : r.answers v ≡ s.answers v

-- The workers of the table alone count.
abbrev pub RunsAlike : Type 0
RunsAlike = (r : Run) (keep : ℕ → View) (keys done : ℕ → List ℕ) (answers : ℕ → List Bool)
    → ((v : ℕ) → v < r.shape.workers → AreAlike r (record r { keep = keep; keys = keys; done = done; answers = answers }) v)
    → RunInvariant r → RunInvariant (record r { keep = keep; keys = keys; done = done; answers = answers })

-- ---- at each moment

-- By the words and the facts a cell stands for no more than one word, which is what the acts left there,
abbrev pub LogicalWords : Type 0
LogicalWords = (w : World) (z : Shape) (words : List ℕ) (keep : ℕ → View) (c word : ℕ) → Core w z words keep → c < cell_count z
    → IsLogicalWord z words keep c word → word ≡ cells_after w w.act_count c

-- and for one it does, where each worker knows what it holds.
abbrev pub WordsStand : Type 0
WordsStand = (w : World) (z : Shape) (words : List ℕ) (keep : ℕ → View) (c : ℕ) → Core w z words keep → c < cell_count z
    → ((v : ℕ) → v < z.workers → KnowsHeld (keep v).side v) → (word : ℕ) × IsLogicalWord z words keep c word

-- What stands in a cell leads to rows that the table has, or to a worker that holds it.
abbrev pub WordsLeadInside : Type 0
WordsLeadInside = (w : World) (z : Shape) (words : List ℕ) (keep : ℕ → View) (c : ℕ) → Core w z words keep → c < cell_count z
    → LeadsInside z words keep c (cell_in (slice_index words c))

-- The step finds a descriptor undecided, and decides that it succeeded.
abbrev pub IsSuccess : Step → (word : ℕ) → Type 0
IsSuccess (Step.decides d k) word = (word ≡ control_word_of d.number undecided) × (k ≡ succeeded)
IsSuccess _ word = ⊥

-- No other step changes what a cell stands for. So a stale helper changes no cell, whatever it still does for a descriptor that
-- is decided or that is stale: its control word is another one.
abbrev pub OnlySuccessChanges : Type 0
OnlySuccessChanges = (w : World) (z : Shape) (words then : List ℕ) (keep : ℕ → View) (who : ℕ) (s : Step) (word : ℕ) (next : View)
    → Core w z words keep → who < z.workers → Allowed z (keep who) s → StepsTo z s words (keep who) word then next → (IsSuccess s word → ⊥)
    → (c was is : ℕ) → c < cell_count z → IsLogicalWord z words keep c was → IsLogicalWord z then (updated keep who next) c is → is ≡ was

-- the set reflects that the key is done
abbrev pub Reflects : Kind → Keys → (k : ℕ) → Type 0
Reflects Insert S k = contains S k ≡ true
Reflects Remove S k = contains S k ≡ false
Reflects Ask S k = Unit {0}

-- The acts so far: those of the earlier rounds, and those of this one. The former led to the cells with which this round began.
-- The latter are the descriptors that succeeded, as control words and facts tell, each once, and those of one worker in the
-- order in which it opened them. All together they lead to what the cells stand for.
pub record ActsSoFar (r : Run) (before now : List Made) : Type 0 where
  pub workers : AreOf r.shape.workers (before ++ now)
  pub meet : AllMeet (acts_of (before ++ now)) r.opening
  pub begun : (v c : ℕ) → v < r.shape.workers → c < cell_count r.shape
      → slice_index (apply_acts (acts_of before) r.opening) c ≡ value_of (slice_index (r.keep v).opening c)
  pub succeeded : (v : ℕ) → v < r.shape.workers → own v now ≡ succeeded_now r.shape r.words (r.keep v)
  pub cells : AreNow r.shape r.words r.keep (apply_acts (acts_of (before ++ now)) r.opening)

-- Worker v has done its keys one by one: by what it read, and by its acts in their order, of which the last may be left, as it
-- has its descriptor open.
pub record WorkerSpec (r : Run) (made : List Made) (v : ℕ) : Type 0 where
  pub acts : List Act
  pub left : List Act
  pub reads : List Kept
  pub each : IsDone r.kind r.shape.bits reads (r.done v) acts (r.answers v)
  pub were_true : WereTrue r.opening (acts_of made) reads
  pub are_own : own v made ≡ acts ++ left
  pub one_left : length left ≤ 1
  pub none_left : (r.keep v).side.current ≡ None → left ≡ []

-- By these acts so far each worker has done its keys, and the cells stand for the layout of the set after the keys of the acts,
-- in their order, each of which is done by its act, with the answer whether that changes a cell. Each is a key of a worker; and
-- the set reflects each key that is done.
pub record MomentSpec (r : Run) (S : Keys) (before now : List Made) : Type 0 where
  pub acts : ActsSoFar r before now
  pub did : (v : ℕ) → v < r.shape.workers → WorkerSpec r (before ++ now) v
  pub so_far : List ℕ
  pub each : IsDone r.kind r.shape.bits [] so_far (acts_of (before ++ now)) (map changes (acts_of (before ++ now)))
  pub among : (k : ℕ) → Contains so_far k → (v : ℕ) × (v < r.shape.workers) × Contains (r.keys v) k
  pub layout : (cells : List ℕ) → AreNow r.shape r.words r.keep cells → Layout cells r.shape.bits (set_after r.kind S so_far)
  pub reflects : (v k : ℕ) → v < r.shape.workers → Contains (r.done v) k → Reflects r.kind (set_after r.kind S so_far) k

abbrev pub RunMoment : Type 0
RunMoment = (r : Run) (S : Keys) (all : List ℕ) (run : RunInvariant r) → Layout r.opening r.shape.bits S
    → ((v k : ℕ) → v < r.shape.workers → Contains (r.keys v) k → Contains all k) → LeavesRoom r.kind r.shape.bits S all
    → MomentSpec r S run.before (history run.world)

-- Where keys are asked for, each is answered by whether the first set holds it: no act changes a cell.
abbrev pub RunAnswers : Type 0
RunAnswers = (r : Run) (S : Keys) → RunInvariant r → Layout r.opening r.shape.bits S → r.kind ≡ Ask
    → (v : ℕ) → v < r.shape.workers → r.answers v ≡ looked_up S (r.done v)

-- ---- at the end

-- The workers have made what one worker makes of this list: the layout of the same set, and the same tally.
pub record FinalSpec (r : Run) (S : Keys) (list : List ℕ) : Type 0 where
  pub layout : Layout (cells_held r.shape r.words) r.shape.bits (set_after r.kind S list)
  pub tally : sum_of_all (λ v. counted r.kind (r.answers v)) r.shape.workers ≡ tally_of r.kind S list

-- Where each worker has done its list, and all are at rest.
abbrev pub RunEnds : Type 0
RunEnds = (r : Run) (S : Keys) (pieces : List (List ℕ)) → RunInvariant r → AllRest r.shape r.keep → Layout r.opening r.shape.bits S
    → length pieces ≡ r.shape.workers → ((v : ℕ) → v < r.shape.workers → r.done v ≡ piece pieces v)
    → LeavesRoom r.kind r.shape.bits S (joined pieces) → FinalSpec r S (joined pieces)

-- Where the workers have claimed a shared list to its end, and each has done the keys that it claimed.
abbrev pub RunSharedEnds : Type 0
RunSharedEnds = (r : Run) (S : Keys) (list : List ℕ) → RunInvariant r → AllRest r.shape r.keep → Layout r.opening r.shape.bits S
    → length list ≡ r.shape.keys → ((v : ℕ) → v < r.shape.workers → FoundEnd r.shape (r.keep v))
    → ((v : ℕ) → v < r.shape.workers → r.done v ≡ map (slice_index list) (claimed r.shape (r.keep v)))
    → LeavesRoom r.kind r.shape.bits S list → FinalSpec r S list
