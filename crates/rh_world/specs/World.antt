-- What there is between the workers: cells, descriptors, marks, acts and the shared counter. It has no word and no
-- place of a word. Descriptors and the swaps of several cells that they ask for are those of Harris, Fraser and Pratt
-- 2002 (CASN), and so are marks, which their restricted swap leaves in a cell (RDCSS). Acts and the counter are this
-- project's own. Descriptors and marks are never used again here; of a stale one a world says no more than the fact `stale`.
use Rattle.std.specs.Prelude.{◌≡◌, ◌≢◌, ℕ, ◌<◌, ◌⊎◌, ◌==◌, ◌&&◌, Bool, cond, List, [], ◌∷◌}

-- a descriptor or a mark: its worker, and its number among that worker's
pub record Ref : Type 0 where
  pub worker : ℕ
  pub number : ℕ

-- what stands in a cell
pub data Cell : Type 0 where
  plain : ℕ → Cell
  mark : Ref → Cell
  desc : Ref → Cell

-- how far the swap of a descriptor has come; `failed e by`: entry e did not hold its old value, as worker `by` decided
pub data Control : Type 0 where
  unused undecided succeeded withdrawn : Control
  failed : (entry decider : ℕ) → Control

pub record World : Type 0 where
  pub cell : ℕ → Cell
  -- of a descriptor: its control, how many entries it has, each entry's cell, old and new value, and the number of
  -- acts when it was opened
  pub control : Ref → Control
  pub size : Ref → ℕ
  pub target : Ref → ℕ → ℕ
  pub old : Ref → ℕ → ℕ
  pub new : Ref → ℕ → ℕ
  pub acts_before : Ref → ℕ
  -- of a worker: the number of its next descriptor, and how many marks it used up
  pub next_number : ℕ → ℕ
  pub marks_used : ℕ → ℕ
  -- of a mark: the descriptor and the entry that it was placed for
  pub mark_desc : Ref → Ref
  pub mark_entry : Ref → ℕ
  -- the acts, in order: how many there are, each one's descriptor, and what the cells stood for after the first n
  pub act_count : ℕ
  pub act : ℕ → Ref
  pub logical : ℕ → ℕ → ℕ
  -- how many workers there are, how many keys their shared list has, and how many Claims were made
  pub workers : ℕ
  pub keys : ℕ
  pub counter : ℕ

abbrev pub IsOpened : Control → Type 0
IsOpened k = k ≢ unused

abbrev pub IsDecided : Control → Type 0
IsDecided unused = ⊥
IsDecided undecided = ⊥
IsDecided succeeded = Unit {0}
IsDecided withdrawn = Unit {0}
IsDecided (failed e by) = Unit {0}

-- d failed at entry e, whoever decided so
abbrev pub HasFailed : World → Ref → ℕ → Type 0
HasFailed w d e = (by : ℕ) × (w.control d ≡ failed e by)

-- a mark is used up once it was placed in a cell
abbrev pub IsUsed : World → Ref → Type 0
IsUsed w x = x.number < w.marks_used x.worker

-- a stands in the list
abbrev pub In : {A : Type 0} → A → List A → Type 0
In a [] = ⊥
In a (b ∷ l) = (a ≡ b) ⊎ In a l

-- each number of the list is greater than those behind it
abbrev pub IsFalling : List ℕ → Type 0
IsFalling [] = Unit {0}
IsFalling (n ∷ ns) = ((m : ℕ) → In m ns → m < n) × IsFalling ns

abbrev pub is_ref : Ref → Ref → Bool
is_ref x r = (x.worker == r.worker) && (x.number == r.number)

-- a function that is changed at one place
abbrev pub updated : {A : Type 0} → (ℕ → A) → ℕ → A → ℕ → A
updated f k a j = cond (j == k) a (f j)

abbrev pub updated_ref : {A : Type 0} → (Ref → A) → Ref → A → Ref → A
updated_ref f r a x = cond (is_ref x r) a (f x)
