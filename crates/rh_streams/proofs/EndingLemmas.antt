-- How a command may end.
use Rattle.std.proofs.Common.{◌≡◌, inl, inr, ℕ, List, Option, Result, Ok, Err, IfErr, refl, subst}
use Rattle.std.specs.Global.{Global}
use Rattle.std.specs.Io.Buffered.{writer_contents}
use Rattle.std.specs.Io.KnownBytes.{Keeps}
use Rattle.std.specs.declared.io.buffered.BufWriter.{BufWriter}
use Rattle.rh_streams.specs.Finishing.{status_by, told_as, ToldAs, EndsBy, EndsWith, Finishes}
use Rattle.rh_cli.specs.declared.status.ProgramFault.{ProgramFault}
use Rattle.rh_cli.specs.declared.status.ProgramFault.TheVariants as fault
use Rattle.rh_cli.specs.declared.status.Status.{Status}

-- a command that ended so ended by its work, or because its output could not be written out
pub ends_by : {X E F : Type 0} (Tells : E → F → Type 0) (of_program : ProgramFault → F) (outcome : Result X E) (told written : Result (Unit {0}) F) (r : Result Status F) → ToldAs Tells outcome told → IfErr written (λ f. f ≡ of_program fault.Write) → r ≡ status_by told written → EndsBy Tells of_program r
ends_by Tells of_program (Ok x) told (Ok y) r tells write ends = rw (ends, tells) refl
ends_by Tells of_program (Ok x) told (Err f) r tells write ends = rw (ends, tells) (inr (inl write))
ends_by Tells of_program (Err f) told written r tells write ends = rw (ends, tells.1) (inl (f, tells.2))

-- a fault that is told by a function of it alone
pub told_as_tells : {X E F : Type 0} (name : E → F) (outcome : Result X E) (told : Result (Unit {0}) F) → told ≡ told_as name outcome → ToldAs (λ f t. t ≡ name f) outcome told
told_as_tells name (Ok x) told shown = shown
told_as_tells name (Err f) told shown = (name f, shown, refl)

-- a command whose work was done on the writer that is left, which was then finished
pub ends_with : {X E F W : Type 0} {Tells : E → F → Type 0} {of_program : ProgramFault → F} {Works : Option (List ℕ) → Result X E → Type 0} (contents : W → Option (List ℕ)) (left writer : BufWriter W Global) (outcome : Result X E) (told : Result (Unit {0}) F) (r : Result Status F × BufWriter W Global)
    → Works (writer_contents contents left) outcome → writer ≡ left → ToldAs Tells outcome told → Finishes contents told (of_program fault.Write) writer r → EndsWith contents Tells of_program Works r
ends_with contents left writer outcome told r works same tells finished = record {
  ends = record {
    outcome = outcome;
    output = writer_contents contents left;
    works = works;
    kept = subst (λ w. Keeps (writer_contents contents w) (writer_contents contents r.1)) same finished.kept;
    told = told;
    tells = tells;
    written = finished.written;
    unwritten = finished.fails;
    ends = finished.ends;
  };
  empty = finished.empty;
}
