-- The rule of a table as its seats have it: each seat's view is the list of what is kept of its workers. A step leaves
-- where each worker sits; that a view is cut in two, or two are joined, changes this alone.
use Rattle.std.specs.Prelude.{◌≡◌, ℕ, zero, suc, ◌+◌, ◌<◌, ◌≤◌, List, [], ◌∷◌, ◌++◌, length, map, replicate, take, drop, slice_index, Some, None}
use mathlib.Core.Option.{some}
use lib.ListN.{get_elem?}
use Rattle.atomic_table.specs.Table.{State, Me, Allows, Joins, Splits, opening}
use Rattle.rh_world.specs.World.{World}
use Rattle.rh_world.specs.Sides.{AtRest}
use Rattle.rh_rule.specs.declared.rule.Sitter.{Sitter}
use Rattle.rh_words.specs.declared.shape.Shape.{Shape}
use Rattle.rh_words.specs.declared.reference.Reading.{Reading}
use Rattle.rh_words.specs.Parts.{cell_count}
use Rattle.rh_words.specs.View.{View, new_view, round_view}
use Rattle.rh_words.specs.Words.{IsPlain}
use Rattle.rh_words.specs.Steps.{Step, Allowed, noted, index, index_read, word_after}
use Rattle.rh_rule.specs.Traces.{Happened, Touch, touched}
use Rattle.rh_rule.specs.Core.{Core, Ruled}
use Rattle.rh_rule.specs.Rest.{AllRest, RuleTells, Rested}
use Rattle.rh_rule.specs.Sound.{Finds, Sound}
use Rattle.rh_rule.specs.Wipes.{RoundBegins, Rules, row_total, wiping_view}

-- what a seat's view has of one worker
abbrev pub sitter : View → List Touch → Sitter
sitter v l = record { view = v; trace = l }

-- where each worker sits: the seat, and the place in that seat's view
pub record Seated (z : Shape) (keep : ℕ → View) (traces : ℕ → List Touch) (views : List (List Sitter)) : Type 0 where
  pub seat_of : ℕ → ℕ
  pub rank_of : ℕ → ℕ
  pub seated : (j r : ℕ) (vs : List Sitter) (s : Sitter) → get_elem? views j ≡ some vs → get_elem? vs r ≡ some s
      → (s.view.worker < z.workers) × ((keep s.view.worker ≡ s.view) × (traces s.view.worker ≡ s.trace)) × (seat_of s.view.worker ≡ j) × (rank_of s.view.worker ≡ r)

-- What happened since the round began: the workers' traces are the parts of one order of steps, and no one else made any.
pub record Round (z : Shape) (words : List ℕ) (keep : ℕ → View) (traces : ℕ → List Touch) : Type 0 where
  pub start : List ℕ
  pub begins : RoundBegins z start keep
  pub happened : Happened start words traces
  pub beyond : (v : ℕ) → z.workers ≤ v → traces v ≡ []

-- the rule of the table; a wipe is no part of a round
pub record RuleHolds {S : Type 0} (z : Shape) (t : State S (List Sitter)) : Type 0 where
  pub keep : ℕ → View
  pub traces : ℕ → List Touch
  pub seated : Seated z keep traces t.views
  pub rules : Rules z t.words keep
  pub round : Ruled z t.words keep → Round z t.words keep traces

-- the view of a seat has the workers from the first on, so many
pub record Spans (vs : List Sitter) (first count : ℕ) : Type 0 where
  pub long : length vs ≡ count
  pub each : (r : ℕ) (s : Sitter) → get_elem? vs r ≡ some s → s.view.worker ≡ first + r

abbrev pub InView : (View → Type 0) → List Sitter → Type 0
InView P vs = (r : ℕ) (s : Sitter) → get_elem? vs r ≡ some s → P s.view

-- where a wipe begins or ends, what is kept of all changes, and the traces begin anew
abbrev pub all_views : (View → View) → List Sitter → List Sitter
all_views f vs = map (λ s. sitter (f s.view) []) vs

-- the workers from the first on, so many
abbrev pub new_views : (cells : List ℕ) → (first count : ℕ) → List Sitter
new_views cells first zero = []
new_views cells first (suc n) = sitter (new_view cells first) [] ∷ new_views cells (suc first) n

-- the view of the first seat
abbrev pub first_view : Shape → (cells : List ℕ) → List Sitter
first_view z cells = new_views cells 0 z.workers

-- the worker is in the midst of a wipe
abbrev pub IsWiping : (cells : List ℕ) → (cleared : ℕ) → View → Type 0
IsWiping cells cleared v = v.wiping ≡ Some (record { cells = cells; cleared = cleared })

-- ---- what the laws of seats say

-- the table has no slots: such a value is the one of their type
abbrev pub NoSlot : Type 0
NoSlot = Unit {0}

-- A table starts with plain cells, whose other words are 0, and with one seat for all workers.
abbrev pub TableBegins : Type 0
TableBegins = (z : Shape) (cells : List ℕ) (slots : List NoSlot) → length cells ≡ cell_count z
    → ((c : ℕ) → c < cell_count z → IsPlain (slice_index cells c))
    → RuleHolds z (opening (cells ++ replicate (row_total z + 1) 0) slots (first_view z cells))

-- what a step tells the seat of one worker, of whom this was kept before
pub record StepTells (z : Shape) (v : View) (l : List Touch) (s : Step) (word : ℕ) (me : Me NoSlot (List Sitter)) : Type 0 where
  pub view : me ≡ (sitter (noted z v s word) (touched z v s word ∷ l) ∷ [], [])
  pub finds : Finds z v s word
  pub sound : Sound z (noted z v s word)
  pub rule_tells : RuleTells z (noted z v s word)

-- The seat of one worker may make each step that is allowed: it touches the step's word, notes what it found, and learns
-- what it may rely on, and what the rule tells of all workers then.
abbrev pub StepsAreAllowed : Type 0
StepsAreAllowed = (z : Shape) (slots id : ℕ) (v : View) (l : List Touch) (s : Step) → Allowed z v s
    → Allows {S = NoSlot} (RuleHolds z) slots id (sitter v l ∷ [], []) (index z v s) (word_after v s) (StepTells z v l s)

-- What a look at a word tells, which is no step: nothing is noted. (A worker looks so at its own rows.)
pub record LookTells (z : Shape) (v : View) (l : List Touch) (r : Reading) (word : ℕ) (me : Me NoSlot (List Sitter)) : Type 0 where
  pub view : me ≡ (sitter v l ∷ [], [])
  pub finds : Finds z v (Step.reads r) word

abbrev pub LooksAreAllowed : Type 0
LooksAreAllowed = (z : Shape) (slots id : ℕ) (v : View) (l : List Touch) (r : Reading) → Allowed z v (Step.reads r)
    → Allows {S = NoSlot} (RuleHolds z) slots id (sitter v l ∷ [], []) (index_read z r) (λ n. n) (LookTells z v l r)

-- A view may be cut in two at any place, and two views may be joined.
abbrev pub ViewsSplit : Type 0
ViewsSplit = (z : Shape) (id n : ℕ) (vs : List Sitter) → Splits {S = NoSlot} (RuleHolds z) id vs (take n vs) (drop n vs)

abbrev pub ViewsJoin : Type 0
ViewsJoin = (z : Shape) (id : ℕ) (vs : List Sitter) (other : ℕ) (us : List Sitter)
    → Joins {S = NoSlot} (RuleHolds z) id vs other us (vs ++ us) []

-- Where all workers of a seat's view are at rest: the words of the table, which is ruled, and its cells, as words. These are
-- those that it was made or wiped with, changed by all acts since, act by act. The steps that the workers noted since are all
-- that happened.
-- (The rule itself is said, and not only what follows from it for the cells: the laws of runs begin from it.)
pub record AreMade (z : Shape) (vs : List Sitter) : Type 0 where
  pub cells : List ℕ
  pub long : length cells ≡ cell_count z
  pub words : List ℕ
  pub front : (c : ℕ) → c < cell_count z → slice_index words c ≡ slice_index cells c
  pub w : World
  pub keep : ℕ → View
  pub core : Core w z words keep
  pub rest : AllRest z keep
  pub rested : Rested w z cells keep core.side
  pub of_view : (r : ℕ) (s : Sitter) → get_elem? vs r ≡ some s → keep r ≡ s.view
  pub traces : ℕ → List Touch
  pub round : Round z words keep traces
  pub of_trace : (r : ℕ) (s : Sitter) → get_elem? vs r ≡ some s → traces r ≡ s.trace

-- what the seat of all workers learns where it begins a wipe
pub record Begun (z : Shape) (vs : List Sitter) (me : Me NoSlot (List Sitter)) : Type 0 where
  pub made : AreMade z vs
  pub view : me ≡ (all_views (wiping_view made.cells 0) vs, [])

-- what the seat of all workers does in a wipe
pub record WipeSteps (z : Shape) (slots id : ℕ) (vs : List Sitter) : Type 0 where
  -- where all are at rest it begins one, by a load of any word
  pub begins : (i : ℕ) → InView (λ v. v.wiping ≡ None) vs → InView (λ v. AtRest v.side) vs
      → Allows {S = NoSlot} (RuleHolds z) slots id (vs, []) i (λ n. n) (λ word. Begun z vs)
  -- it clears the next row word
  pub stores : (cells : List ℕ) (n : ℕ) → n < row_total z → InView (IsWiping cells n) vs
      → Allows {S = NoSlot} (RuleHolds z) slots id (vs, []) (cell_count z + n) (λ word. 0)
      (λ word me. me ≡ (all_views (wiping_view cells (n + 1)) vs, []))
  -- it ends the wipe, by a load of any word
  pub ends : (cells : List ℕ) (i : ℕ) → InView (IsWiping cells (row_total z)) vs
      → Allows {S = NoSlot} (RuleHolds z) slots id (vs, []) i (λ n. n) (λ word me. me ≡ (all_views (round_view cells) vs, []))

abbrev pub AllMayWipe : Type 0
AllMayWipe = (z : Shape) (slots id : ℕ) (vs : List Sitter) → Spans vs 0 z.workers
    → WipeSteps z slots id vs

-- At the close the seat of all workers has what the rule speaks of.
pub record Closed (z : Shape) (vs : List Sitter) (words : List ℕ) : Type 0 where
  pub keep : ℕ → View
  pub traces : ℕ → List Touch
  pub ruled : Ruled z words keep
  pub round : Round z words keep traces
  pub of_view : (r : ℕ) (s : Sitter) → get_elem? vs r ≡ some s → keep r ≡ s.view
  pub of_trace : (r : ℕ) (s : Sitter) → get_elem? vs r ≡ some s → traces r ≡ s.trace

abbrev pub CloseSees : Type 0
CloseSees = (z : Shape) (id : ℕ) (vs : List Sitter) (t : State NoSlot (List Sitter)) → Spans vs 0 z.workers
    → RuleHolds z t → get_elem? t.views id ≡ some vs → InView (λ v. v.wiping ≡ None) vs
    → Closed z vs t.words
