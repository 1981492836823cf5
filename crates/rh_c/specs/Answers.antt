-- What a call answers, in numbers.
use Rattle.std.specs.Prelude.{◌≡◌, ℕ, List, length, Result, Ok, Err, IfOk, IfErr, OnErr}
use Rattle.rh_combine.specs.declared.how.How.{How}
use Rattle.rh_slices.specs.declared.refused.Refused.{Refused}
use Rattle.rh_slices.specs.declared.refused.Refused.TheVariants.{NotAKey, NoRoom, Memory}
use Rattle.rh_slices.specs.Slices.{AreTooMany, IsCut, IsPut, IsWhy}
use Rattle.rh_c.specs.declared.answer.Detail.{Detail}
use Rattle.rh_c.specs.declared.answer.TheConstants.{DONE, BAD_KEY, NO_ROOM, NO_MEMORY}

abbrev pub detail : (list number : ℕ) → Detail
detail list number = record { list = list; number = number }

-- an outcome by its status, and what that is about
abbrev pub IsStatus : Result ℕ Refused → (status : ℕ) → Detail → Type 0
IsStatus (Ok count) status d = (status ≡ DONE) × (d ≡ detail 0 count)
IsStatus (Err (NotAKey list at)) status d = (status ≡ BAD_KEY) × (d ≡ detail list at)
IsStatus (Err (NoRoom count)) status d = (status ≡ NO_ROOM) × (d ≡ detail 0 count)
IsStatus (Err Memory) status d = (status ≡ NO_MEMORY) × (d ≡ detail 0 0)

-- What comes of the lists was put, or nothing was, and why is told.
pub record Answers (how : How) (lists : List (List ℕ)) (old new : List ℕ) (status : ℕ) (d : Detail) : Type 0 where
  pub outcome : Result ℕ Refused
  pub told : IsStatus outcome status d
  pub put : IfOk outcome (IsPut how lists old new)
  pub why : IfErr outcome (IsWhy how lists (length old))
  pub unchanged : OnErr outcome (new ≡ old)

-- The numbers of the range were put, or nothing was, as there is room for fewer.
pub record AnswersWithin (from to : ℕ) (list old new : List ℕ) (status : ℕ) (d : Detail) : Type 0 where
  pub outcome : Result ℕ Refused
  pub told : IsStatus outcome status d
  pub cut : IfOk outcome (IsCut from to list old new)
  pub why : IfErr outcome (AreTooMany from to list (length old))
  pub unchanged : OnErr outcome (new ≡ old)
