-- What the commands of a script make of sets and lists of any size: no table is too large, and no file is missing. And what
-- of that belongs to one part.
use Rattle.std.specs.Prelude.{ℕ, Bool, if◌then◌else◌, List, [], ◌∷◌, ◌++◌, filter, map}
use Rattle.std.specs.FinSet as set
use Rattle.std.specs.Str.{bytes_eq}
use Rattle.rh_layout.specs.Layout.{Keys}
use Rattle.rh_edit.specs.Rising.{rising_keys}
use Rattle.rh_script.specs.Instruction.{Instruction, Use, Act, Save, Clear, Dump, Snapshot, Restore}
use Rattle.rh_operations.specs.Sets.{held_after}
use Rattle.rh_script_run.specs.Meaning.{list_of}

-- The keys that are held, the lists by their names in the order in which they were given, and by their paths the lists in key
-- files and the keys of snapshots.
pub record PartState : Type 0 where
  pub held : Keys
  pub lists : List (List ℕ × List ℕ)
  pub files : List ℕ → List ℕ
  pub snapshots : List ℕ → Keys

abbrev pub with_held : PartState → Keys → PartState
with_held s S = record s { held = S }

-- the list has a name from now on
abbrev pub with_name : PartState → (name keys : List ℕ) → PartState
with_name s name keys = record s { lists = s.lists ++ (name, keys) ∷ [] }

-- the snapshot at the path has these keys from now on
abbrev pub with_sealed : PartState → (path : List ℕ) → Keys → PartState
with_sealed s path S = record s { snapshots = λ other. if bytes_eq path other then S else s.snapshots other }

-- after a command, of which `dump` only tells what there is
abbrev pub after : PartState → Instruction → PartState
after s (Use name path) = with_name s name (s.files path)
after s (Act action name) = with_held s (held_after action s.held (list_of name s.lists))
after s (Save name) = with_name s name (rising_keys s.held)
after s Clear = with_held s set.empty
after s Dump = s
after s (Snapshot path) = with_sealed s path s.held
after s (Restore path) = with_held s (s.snapshots path)

-- after the commands, one by one
abbrev pub after_all : PartState → List Instruction → PartState
after_all s [] = s
after_all s (command ∷ commands) = after_all (after s command) commands

-- ---- the part of it, by a test that its keys pass

abbrev pub cut_list : (passes : ℕ → Bool) → List ℕ × List ℕ → List ℕ × List ℕ
cut_list passes named = (named.0, filter passes named.1)

abbrev pub cut : (passes : ℕ → Bool) → PartState → PartState
cut passes s = record {
  held = set.retain s.held passes;
  lists = map (cut_list passes) s.lists;
  files = λ path. filter passes (s.files path);
  snapshots = λ path. set.retain (s.snapshots path) passes;
}
