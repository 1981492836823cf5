-- How many numbers of lists stand in just these of them.
use Rattle.std.specs.Prelude.{◌≡◌, ℕ, ◌-◌, ◌^◌, ◌<◌, ◌==◌, min, List, length, get_or}
use Rattle.rh_cutting.specs.Borders.{between}
use Rattle.rh_cutting.specs.Cut.{AreLists}
use Rattle.rh_cutting.specs.declared.whole.CutLists.{CutLists}
use Rattle.rh_questions.specs.Selections.{chosen, code}

-- the numbers that stand in just these lists: the combination has bit i where list i is one of them
abbrev pub combined : List (List ℕ) → (combination : ℕ) → List ℕ
combined lists c = chosen (λ row. code row == c) lists

-- how many that are
abbrev pub tally : List (List ℕ) → (combination : ℕ) → ℕ
tally lists c = length (combined lists c)

-- of each combination of the lists its tally
pub record AreTallies (lists : List (List ℕ)) (counts : List ℕ) : Type 0 where
  pub len : length counts ≡ 2 ^ length lists
  pub each : (c : ℕ) → c < 2 ^ length lists → get_or counts c 0 ≡ tally lists c

-- ---- while it is counted

-- so many were counted, which stops where no count comes
abbrev pub IsCount : (counts : List ℕ) → (c n : ℕ) → Type 0
IsCount counts c n = get_or counts c 0 ≡ min n (2 ^ 64 - 1)

-- of each combination of the lists that were cut how many of its numbers stand in the parts from p up to before q
pub record AreCounts (cut : CutLists) (p q : ℕ) (counts : List ℕ) : Type 0 where
  pub len : length counts ≡ 2 ^ length cut.lists.items
  pub each : (lists : List (List ℕ)) → AreLists cut lists → (c : ℕ) → c < 2 ^ length cut.lists.items → IsCount counts c (length (between cut.borders.values.items p q (combined lists c)))
