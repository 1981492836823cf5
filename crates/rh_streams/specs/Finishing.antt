-- How a command ends that works through a buffer.
use Rattle.std.specs.Prelude.{◌≡◌, ◌⊎◌, ℕ, List, [], Option, Result, Ok, Err, IfErr, OnOk}
use Rattle.std.specs.Global.{Global}
use Rattle.std.specs.Io.Buffered.{writer_buffer, writer_contents}
use Rattle.std.specs.Io.KnownBytes.{Keeps}
use Rattle.std.specs.declared.io.buffered.BufWriter.{BufWriter}
use Rattle.rh_cli.specs.declared.status.ProgramFault.{ProgramFault}
use Rattle.rh_cli.specs.declared.status.ProgramFault.TheVariants as fault
use Rattle.rh_cli.specs.declared.status.Status.{Status}
use Rattle.rh_cli.specs.declared.status.Status.TheVariants.{Done}

-- how a command ends: a fault of its work comes first, then that its output was not written out, and else it is done
abbrev pub status_by : {E : Type 0} → (told written : Result (Unit {0}) E) → Result Status E
status_by (Err fault) written = Err fault
status_by (Ok x) (Err fault) = Err fault
status_by (Ok x) (Ok y) = Ok Done

-- the same outcome, with its fault told as one of a program
abbrev pub told_as : {X E F : Type 0} → (E → F) → Result X E → Result (Unit {0}) F
told_as name (Ok x) = Ok tt
told_as name (Err fault) = Err (name fault)

-- the same, where that is no function of the fault alone
abbrev pub ToldAs : {X E F : Type 0} → (Tells : E → F → Type 0) → Result X E → Result (Unit {0}) F → Type 0
ToldAs Tells (Ok x) r = r ≡ Ok tt
ToldAs Tells (Err fault) r = (told : _) × (r ≡ Err told) × Tells fault told

-- A command whose work came to an outcome, when its output stood so. Its ending is what that is told as, whether or not the last of
-- its output, which now stands there, could be written out.
pub record Ends {X E F : Type 0} (Tells : E → F → Type 0) (of_program : ProgramFault → F) (Works : Option (List ℕ) → Result X E → Type 0) (now : Option (List ℕ)) (r : Result Status F) : Type 0 where
  pub outcome : Result X E
  pub output : Option (List ℕ)
  pub works : Works output outcome
  pub kept : Keeps output now
  pub told : Result (Unit {0}) F
  pub tells : ToldAs Tells outcome told
  pub written : Result (Unit {0}) F
  pub unwritten : IfErr written (λ f. f ≡ of_program fault.Write)
  pub ends : r ≡ status_by told written

-- The same of a command that is left with its writer: nothing stands in its buffer any more where the command is done.
pub record EndsWith {X E F W : Type 0} (contents : W → Option (List ℕ)) (Tells : E → F → Type 0) (of_program : ProgramFault → F) (Works : Option (List ℕ) → Result X E → Type 0) (r : Result Status F × BufWriter W Global) : Type 0 where
  pub ends : Ends Tells of_program Works (writer_contents contents r.1) r.0
  pub empty : OnOk r.0 (writer_buffer r.1 ≡ [])

-- How a command ends whose work was told so, when the last of its output still stood in this writer's buffer.
pub record Finishes {F W : Type 0} (contents : W → Option (List ℕ)) (told : Result (Unit {0}) F) (unwritten : F) (writer : BufWriter W Global) (r : Result Status F × BufWriter W Global) : Type 0 where
  pub written : Result (Unit {0}) F
  pub fails : IfErr written (λ f. f ≡ unwritten)
  pub ends : r.0 ≡ status_by told written
  pub kept : Keeps (writer_contents contents writer) (writer_contents contents r.1)
  pub empty : OnOk r.0 (writer_buffer r.1 ≡ [])

-- how a command may end that works through a buffer: done, by what its work told, or by one of two faults of any command
abbrev pub EndsBy : {E F : Type 0} → (Tells : E → F → Type 0) → (of_program : ProgramFault → F) → Result Status F → Type 0
EndsBy Tells of_program (Ok status) = status ≡ Done
EndsBy Tells of_program (Err told) = ((f : _) × Tells f told) ⊎ (told ≡ of_program fault.Write) ⊎ (told ≡ of_program fault.Memory)
