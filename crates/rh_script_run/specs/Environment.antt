-- What a run has outside itself at one moment: a shelf, a runner of phases and a writer.
use Rattle.std.specs.Prelude.{ℕ, List, Option}
use Rattle.rh_bytes.specs.Counting.{inner_of}
use Rattle.rh_bytes.specs.declared.counted.Counted.{Counted}
use Rattle.rh_shelf.specs.Shelf.{Files, ShelfState}
use Rattle.rh_operations.specs.Outside.{Outside}

-- the files of the shelf and what was written, where these are known; and how often the shelf has failed, and readers of its
-- files, and the start of a thread was refused
pub record Environment : Type 0 where
  pub files : Option Files
  pub failures : ℕ
  pub failed_reads : ℕ
  pub refused_starts : ℕ
  pub text : Option (List ℕ)

abbrev pub environment : ShelfState → (refused_starts : ℕ) → (text : Option (List ℕ)) → Environment
environment shelf refused_starts text = record {
  files = shelf.files;
  failures = shelf.failures;
  failed_reads = shelf.failed_reads;
  refused_starts = refused_starts;
  text = text;
}

-- that of these three
abbrev pub environment_of : {S N W : Type 0} → (state : S → ShelfState) → (refused_starts : N → ℕ) → (contents : W → Option (List ℕ)) → S → N → Counted W → Environment
environment_of state refused_starts contents shelf runner writer = environment (state shelf) (refused_starts runner) (contents (inner_of writer))

-- without the text
abbrev pub outside_in : Environment → Outside
outside_in e = record {
  shelf = record { files = e.files; failures = e.failures; failed_reads = e.failed_reads };
  refused_starts = e.refused_starts;
}
