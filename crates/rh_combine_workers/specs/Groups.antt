-- Groups of consecutive parts.
use Rattle.std.specs.Prelude.{◌≡◌, ℕ, ◌+◌, ◌-◌, ◌*◌, ◌^◌, min, List, length, sum_by, Result, IfOk}
use Rattle.std.specs.List.{flat_map}
use Rattle.rh_combine.specs.declared.form.Form.{Form}
use Rattle.rh_combine_workers.specs.declared.group.Group.{Group}
use Rattle.rh_cutting.specs.declared.whole.CutLists.{CutLists}
use Rattle.rh_cutting.specs.Borders.{between}
use Rattle.rh_cutting.specs.Cut.{AreLists}
use Rattle.rh_combine_workers.specs.Spelled.{spelled}

-- the part with which a group begins, and the group before it ends: groups of so many parts from the first one on, of so many in all
abbrev pub group_edge : (first number size parts : ℕ) → ℕ
group_edge first number size parts = min (first + number * size) parts

-- what came of the parts from p up to before q, and how many numbers that is, which stops where no answer comes
pub record IsGroup (answer : List (List ℕ) → List ℕ) (form : Form) (borders : List ℕ) (p q : ℕ) (lists : List (List ℕ)) (group : Group) : Type 0 where
  pub bytes : group.bytes.items ≡ spelled form (between borders p q (answer lists))
  pub count : group.count ≡ min (length (between borders p q (answer lists))) (2 ^ 64 - 1)

-- how many parts there are
abbrev pub parts_of : CutLists → ℕ
parts_of cut = length cut.borders.values.items - 1

-- what a worker tells of a group: of whatever lists were cut, unless memory ran out
pub record TellsGroup {E : Type 0} (answer : List (List ℕ) → List ℕ) (form : Form) (cut : CutLists) (first size number : ℕ) (tried : Result Group E) : Type 0 where
  pub is : (lists : List (List ℕ)) → AreLists cut lists → IfOk tried (IsGroup answer form cut.borders.values.items (group_edge first number size (parts_of cut)) (group_edge first (number + 1) size (parts_of cut)) lists)

-- what came of the parts from p up to before q in groups, one after the other, of whatever lists were cut
pub record IsRound (answer : List (List ℕ) → List ℕ) (form : Form) (cut : CutLists) (p q : ℕ) (groups : List Group) : Type 0 where
  pub bytes : (lists : List (List ℕ)) → AreLists cut lists → flat_map (λ g. g.bytes.items) groups ≡ spelled form (between cut.borders.values.items p q (answer lists))
  pub count : (lists : List (List ℕ)) → AreLists cut lists → min (sum_by (λ g. g.count) groups) (2 ^ 64 - 1) ≡ min (length (between cut.borders.values.items p q (answer lists))) (2 ^ 64 - 1)
