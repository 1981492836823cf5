-- What comes of lists, written.
use Rattle.std.specs.Prelude.{◌≡◌, ℕ, ◌-◌, ◌^◌, min, List, length, Option, Result, IfOk}
use Rattle.rh_bytes.specs.Counting.{CountsFault, Writes, inner_of}
use Rattle.rh_bytes.specs.declared.counted.Counted.{Counted}
use Rattle.rh_cutting.specs.Borders.{between}
use Rattle.rh_cutting.specs.Cut.{AreLists}
use Rattle.rh_cutting.specs.declared.whole.CutLists.{CutLists}
use Rattle.rh_combine_workers.specs.declared.fault.CombineFault.{CombineFault}
use Rattle.rh_combine_workers.specs.declared.fault.CombineFault.TheVariants.{Write}
use Rattle.rh_combine.specs.declared.form.Form.{Form}
use Rattle.rh_combine_workers.specs.Spelled.{spelled}

-- what comes of the lists was written and counted, or, where that failed, a front of it was written
pub record IsWritten (answer : List (List ℕ) → List ℕ) (form : Form) (lists : List (List ℕ)) (old new : Option (List ℕ)) (result : Result ℕ CombineFault) : Type 0 where
  pub text : Writes old new (spelled form (answer lists)) result
  pub count : IfOk result (λ n. n ≡ length (answer lists))

-- so by this writer, of which a failure is counted where a write failed, and else none
pub record WritesAnswer {W : Type 0} (contents : W → Option (List ℕ)) (answer : List (List ℕ) → List ℕ) (form : Form) (lists : List (List ℕ)) (old new : Counted W) (result : Result ℕ CombineFault) : Type 0 where
  pub written : IsWritten answer form lists (contents (inner_of old)) (contents (inner_of new)) result
  pub counts : CountsFault Write old new result

-- the same of what comes of the parts from p up to before q, of whatever lists were cut
pub record WritesParts {W : Type 0} (contents : W → Option (List ℕ)) (answer : List (List ℕ) → List ℕ) (form : Form) (cut : CutLists) (p q : ℕ) (old new : Counted W) (result : Result ℕ CombineFault) : Type 0 where
  pub text : (lists : List (List ℕ)) → AreLists cut lists → Writes (contents (inner_of old)) (contents (inner_of new)) (spelled form (between cut.borders.values.items p q (answer lists))) result
  pub count : (lists : List (List ℕ)) → AreLists cut lists → IfOk result (λ n. n ≡ min (length (between cut.borders.values.items p q (answer lists))) (2 ^ 64 - 1))
  pub counts : CountsFault Write old new result
