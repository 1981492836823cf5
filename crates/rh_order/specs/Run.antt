-- How far the workers of a table have come with their keys: what each has done, by its own acts and by what it read, over
-- all rounds so far.
use Rattle.std.specs.Prelude.{◌≡◌, ℕ, ◌<◌, Option, Some, None, Bool, List, [], ◌∷◌, ◌++◌}
use Rattle.std.specs.List.{Contains}
use Rattle.rh_ledger.specs.declared.tally.Kind.{Kind}
use Rattle.rh_world.specs.World.{World, In}
use Rattle.rh_words.specs.declared.shape.Shape.{Shape}
use Rattle.rh_words.specs.View.{OwnDesc, View}
use Rattle.rh_rule.specs.Core.{Core}
use Rattle.rh_acts.specs.Act.{Act, AllMeet, apply_acts}
use Rattle.rh_acts.specs.Done.{Does, IsDone, Kept, WereTrue}
use Rattle.rh_acts.specs.Workers.{Made, AreOf, acts_of, own}
use Rattle.rh_order.specs.History.{act_of, kept_of, opening_cells, own_acts_of}
use Rattle.rh_order.specs.OwnActs.{Orderly}
use Rattle.rh_order.specs.Known.{KnowsHeld}

-- ---- the keys that are done, and the answer of each

-- one key more, where the key is done
abbrev pub also_done : List ℕ → (k : ℕ) → (answer : Option Bool) → List ℕ
also_done done k None = done
also_done done k (Some answer) = done ++ k ∷ []

abbrev pub also_answered : List Bool → (answer : Option Bool) → List Bool
also_answered answers None = answers
also_answered answers (Some so) = answers ++ so ∷ []

-- ---- one worker, and all

-- the act does one of the keys
abbrev pub DoesOneOf : Kind → (b : ℕ) (keys : List ℕ) → Act → Type 0
DoesOneOf kind b keys act = (k : ℕ) × Contains keys k × ((changes : Bool) × Does kind b k changes act)

-- One worker: what is kept of it and its keys; its acts and reads of earlier rounds; the keys that it has done by now, and the
-- answer of each.
pub record Progress : Type 0 where
  pub view : View
  pub keys : List ℕ
  pub acts : List Act
  pub reads : List Kept
  pub done : List ℕ
  pub answers : List Bool

-- It has done these keys one by one, by its acts and reads of all rounds. Each descriptor that it opened does one of its keys,
-- whether it succeeds or not; and it knows what it holds.
pub record ProgressInvariant (z : Shape) (kind : Kind) (p : Progress) : Type 0 where
  pub orderly : Orderly p.view
  pub so_far : IsDone kind z.bits (p.reads ++ kept_of z p.view) p.done (p.acts ++ own_acts_of p.view) p.answers
  pub opened : (o : OwnDesc) → In o p.view.opened → DoesOneOf kind z.bits p.keys (act_of o.entries)
  pub knows : KnowsHeld p.view.side p.view.worker

-- A table and its workers at one moment: the cells from which the run started, and the words of the table now; and of each
-- worker what is kept of it, its keys, those that it has done, and the answer of each.
pub record Run : Type 0 where
  pub kind : Kind
  pub shape : Shape
  pub opening : List ℕ
  pub words : List ℕ
  pub keep : ℕ → View
  pub keys : ℕ → List ℕ
  pub done : ℕ → List ℕ
  pub answers : ℕ → List Bool

-- how far its worker v has come, of whom this is known of earlier rounds
abbrev pub progress : Run → (before : List Made) (reads : ℕ → List Kept) (v : ℕ) → Progress
progress r before reads v = record { view = r.keep v; keys = r.keys v; acts = own v before; reads = reads v; done = r.done v; answers = r.answers v }

-- The table is ruled by a world, which goes on from where the acts of the earlier rounds led.
pub record RunInvariant (r : Run) : Type 0 where
  pub world : World
  pub core : Core world r.shape r.words r.keep
  -- of the earlier rounds: the acts, and what each worker read
  pub before : List Made
  pub reads : ℕ → List Kept
  pub meet : AllMeet (acts_of before) r.opening
  pub cells : opening_cells world r.shape ≡ apply_acts (acts_of before) r.opening
  pub workers : AreOf r.shape.workers before
  pub acts : (m : Made) → Contains before m → DoesOneOf r.kind r.shape.bits (r.keys m.worker) m.act
  pub was : (v : ℕ) → v < r.shape.workers → WereTrue r.opening (acts_of before) (reads v)
  pub doing : (v : ℕ) → v < r.shape.workers → ProgressInvariant r.shape r.kind (progress r before reads v)
