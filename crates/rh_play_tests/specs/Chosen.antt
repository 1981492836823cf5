-- What a worker has to know for a step to be allowed. A trace does not tell what its worker knew: so it is chosen for each
-- step, and for contracts alone.
use Rattle.std.specs.Prelude.{ℕ, ◌+◌, ◌^◌, ◌<◌, ◌≤◌, List, [], ◌∷◌, Option, Some, None}
use Rattle.std.proofs.Common.{arith, rules}
use Rattle.rh_layout.specs.Key.{IsBits}
use Rattle.rh_world.specs.World.{Ref}
use Rattle.rh_world.specs.Facts.{Fact}
use Rattle.rh_world.specs.Facts.Fact.{known, size_is, target_is, old_is, desc_is, which_is, over, stale, found, may_promote, may_demote, mismatch}
use Rattle.rh_world.specs.Sides.{new_side}
use Rattle.rh_words.specs.Parts.{mark_row}
use Rattle.rh_words.specs.declared.limits.TheConstants.{MAX_ROOM, MAX_WORKERS}
use Rattle.rh_words.specs.View.{View, Written, new_view}
use Rattle.rh_words.specs.Words.{desc_number, ref_of}
use Rattle.rh_words.specs.declared.shape.Part.{Part}
use Rattle.rh_words.specs.declared.shape.Part.TheVariants as part
use Rattle.rh_words.specs.declared.shape.Shape.{Shape}
use Rattle.rh_words.specs.declared.steps.Request.{Request}
use Rattle.rh_words.specs.declared.steps.Request.TheVariants as request

-- an entry at which the first descriptor of a reason's owner failed
abbrev pub write_facts : Part → List Fact
write_facts (part.Cell c) = []
write_facts (part.Control worker) = []
write_facts (part.Serial worker) = []
write_facts (part.Length worker) = []
write_facts (part.EntryCell worker entry) = []
write_facts (part.EntryOld worker entry) = []
write_facts (part.EntryNew worker entry) = []
write_facts (part.MarkSerial worker) = []
write_facts (part.MarkDesc worker) = []
write_facts (part.MarkEntry worker) = []
write_facts (part.Reason worker owner) = mismatch (record { worker = owner; number = 0 }) 0 0 ∷ []
write_facts part.Counter = []

-- what it takes to swap a mark to this value, or to its descriptor
abbrev pub settle_facts : (x d : Ref) → (e c : ℕ) → Option ℕ → List Fact
settle_facts x d e c None = found x c ∷ desc_is x d ∷ which_is x e ∷ may_promote x c ∷ []
settle_facts x d e c (Some old) = found x c ∷ desc_is x d ∷ which_is x e ∷ may_demote x ∷ old_is d e old ∷ []

abbrev pub facts_for : Request → List Fact
facts_for (request.Write p word) = write_facts p
facts_for (request.Open size) = []
facts_for (request.Read r) = []
facts_for (request.Place p old) =
    known (ref_of p.desc) ∷ size_is (ref_of p.desc) (p.entry + 1) ∷ target_is (ref_of p.desc) p.entry p.cell
    ∷ old_is (ref_of p.desc) p.entry old ∷ []
facts_for (request.Settle x p old) = settle_facts (ref_of x) (ref_of p.desc) p.entry p.cell old
facts_for (request.Decide d state) = known (ref_of d) ∷ size_is (ref_of d) 0 ∷ mismatch (ref_of d) 0 0 ∷ []
facts_for (request.Release p state value) =
    size_is (ref_of p.desc) (p.entry + 1) ∷ target_is (ref_of p.desc) p.entry p.cell ∷ old_is (ref_of p.desc) p.entry value
    ∷ over (ref_of p.desc) ∷ stale (ref_of p.desc) ∷ []
facts_for request.Claim = []

-- the words of its rows: of the next descriptor, with an entry, or of the next mark
abbrev pub written_for : Shape → (next_number marks_used : ℕ) → Request → List Written
written_for z next_number marks_used (request.Write p word) = []
written_for z next_number marks_used (request.Open size) =
    record { row = 1; word = next_number } ∷ record { row = 2; word = 1 } ∷ []
written_for z next_number marks_used (request.Read r) = []
written_for z next_number marks_used (request.Place p old) =
    record { row = mark_row z 0; word = marks_used } ∷ record { row = mark_row z 1; word = desc_number (ref_of p.desc) }
    ∷ record { row = mark_row z 2; word = p.entry } ∷ []
written_for z next_number marks_used (request.Settle x p old) = []
written_for z next_number marks_used (request.Decide d state) = []
written_for z next_number marks_used (request.Release p state value) = []
written_for z next_number marks_used request.Claim = []

pub bits_fit : IsBits 3
bits_fit = (omega arith, omega arith)

pub some_worker : 0 < 3
some_worker = omega arith

pub workers_fit : 3 ≤ MAX_WORKERS
workers_fit = omega arith

pub keys_fit : 0 < 2 ^ 63
keys_fit = search rules

pub descriptors_fit : 2 ≤ MAX_ROOM
descriptors_fit = omega arith

pub marks_fit : 8 ≤ MAX_ROOM
marks_fit = omega arith

-- the table on which the steps are made again: `SHAPE` of the tests, which has no name in a contract, since it keeps what is so of
-- its sizes
abbrev pub the_shape : Shape
the_shape = record {
  bits = 3;
  workers = 3;
  keys = 0;
  rooms = record { descriptors = 2; marks = 8 };
  bits_fit = bits_fit;
  some_worker = some_worker;
  workers_fit = workers_fit;
  keys_fit = keys_fit;
  descriptors_fit = descriptors_fit;
  marks_fit = marks_fit;
}

abbrev pub chosen : Shape → (worker next_number control marks_used : ℕ) → Request → View
chosen z worker next_number control marks_used asked = record (new_view [] worker) {
  side = record new_side { facts = facts_for asked };
  next_number = next_number;
  control = control;
  marks_used = marks_used;
  written = written_for z next_number marks_used asked;
}
