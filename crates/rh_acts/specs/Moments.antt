-- What a list of acts of a phase has made of a layout, finished or not.
use Rattle.std.specs.Prelude.{ℕ, ◌+◌, ◌≡◌, ◌⊎◌, List, length, count_by, IsTrue, false}
use Rattle.std.specs.List.{Contains}
use Rattle.std.specs.FinSet as set
use Rattle.std.specs.FinSet.{contains}
use Rattle.rh_layout.specs.Layout.{Keys, Layout}
use Rattle.rh_acts.specs.Act.{Act, apply_acts, changes}
use Rattle.rh_acts.specs.KeyActs.{IsInsertAct, IsRemoveAct, IsRemovalAct}

-- The cells, a layout of S, are a layout of T: of the keys of S and those that the acts put in, each of them by one act.
pub record Grown (b : ℕ) (acts : List Act) (cells : List ℕ) (S T : Keys) : Type 0 where
  pub layout : Layout (apply_acts acts cells) b T
  pub grew : set.len T ≡ set.len S + length acts
  pub keeps : (q : ℕ) → IsTrue (contains S q) → IsTrue (contains T q)
  pub fresh : (a : Act) (k : ℕ) → Contains acts a → IsInsertAct b k a → contains S k ≡ false
  pub adds : (a : Act) (k : ℕ) → Contains acts a → IsInsertAct b k a → IsTrue (contains T k)
  pub only : (q : ℕ) → IsTrue (contains T q) → IsTrue (contains S q) ⊎ ((a : Act) × Contains acts a × IsInsertAct b q a)

-- The cells, a layout of S, are a layout of T: of the keys of S without those that the acts take out. The acts that change
-- a cell are as many as the keys that went.
pub record Shrunk (b : ℕ) (acts : List Act) (cells : List ℕ) (S T : Keys) : Type 0 where
  pub layout : Layout (apply_acts acts cells) b T
  pub shrank : set.len T + count_by changes acts ≡ set.len S
  pub part : (q : ℕ) → IsTrue (contains T q) → IsTrue (contains S q)
  pub drops : (a : Act) (k : ℕ) → Contains acts a → IsRemovalAct b k a → contains T k ≡ false
  pub only : (q : ℕ) → IsTrue (contains S q) → IsTrue (contains T q) ⊎ ((a : Act) × Contains acts a × IsRemoveAct b q a)
