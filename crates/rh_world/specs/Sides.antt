-- What each worker has done and knows: its Side.
use Rattle.std.specs.Prelude.{◌≡◌, ℕ, ◌==◌, ◌&&◌, Option, Some, None, Bool, false, not, List, [], ◌∷◌, filter}
use Rattle.rh_world.specs.World.{Ref, is_ref}
use Rattle.rh_world.specs.Facts.{Fact}

-- a cell where the worker's own mark for this descriptor stood: the descriptor may stand there by its doing
pub record Debt : Type 0 where
  pub desc : Ref
  pub cell : ℕ

-- a plain word that was read: the cell and the word, the acts at the Read, and the number that the worker's next
-- descriptor had then
pub record KeptRead : Type 0 where
  pub cell : ℕ
  pub word : ℕ
  pub acts : ℕ
  pub next_number : ℕ

-- the newest of facts, reads and claims stands first
pub record Side : Type 0 where
  -- the number of the own descriptor that is open, if one is, and its entries that were released after the decision
  pub current : Option ℕ
  pub released : List ℕ
  -- the number of the own mark that is not settled yet, if one is
  pub unsettled : Option ℕ
  pub debts : List Debt
  pub facts : List Fact
  pub reads : List KeptRead
  -- the numbers that the worker's Claims found
  pub claims : List ℕ

abbrev pub new_side : Side
new_side = record { current = None; released = []; unsettled = None; debts = []; facts = []; reads = []; claims = [] }

-- it has nothing open and owes nothing
pub record AtRest (s : Side) : Type 0 where
  pub closed : s.current ≡ None
  pub settled : s.unsettled ≡ None
  pub paid : s.debts ≡ []

abbrev pub note_side : Side → Fact → Side
note_side s n = record s { facts = n ∷ s.facts }

-- the own descriptor of this number is opened
abbrev pub open_side : Side → ℕ → Side
open_side s p = record s { current = Some p; released = [] }

-- the own mark of this number is placed
abbrev pub place_side : Side → ℕ → Side
place_side s m = record s { unsettled = Some m }

-- the own mark for d is settled at cell c
abbrev pub settle_side : Side → Ref → (c : ℕ) → Side
settle_side s d c = record s { unsettled = None; debts = record { desc = d; cell = c } ∷ s.debts }

-- the control of d was read as undecided: its owner owes it now
abbrev pub forget_side : Side → Ref → Side
forget_side s d = record s { debts = filter (λ q. not (is_ref q.desc d)) s.debts }

-- a Release of d was made at cell c
abbrev pub paid_side : Side → Ref → (c : ℕ) → Side
paid_side s d c = record s { debts = filter (λ q. not (is_ref q.desc d && (q.cell == c))) s.debts }

-- an entry of the open descriptor is released
abbrev pub release_side : Side → (e : ℕ) → Side
release_side s e = record s { released = e ∷ s.released }

-- all its entries are
abbrev pub close_side : Side → Side
close_side s = record s { current = None; released = [] }

-- the plain word u was read in cell c, after so many acts, where the worker's next descriptor had this number
abbrev pub read_side : Side → (c u acts next_number : ℕ) → Side
read_side s c u acts next = record s { reads = record { cell = c; word = u; acts = acts; next_number = next } ∷ s.reads }

-- a Claim found this number
abbrev pub claim_side : Side → ℕ → Side
claim_side s n = record s { claims = n ∷ s.claims }

-- is x the own mark, or descriptor, of this number?
abbrev pub is_number : Option ℕ → (who : ℕ) → Ref → Bool
is_number None who x = false
is_number (Some n) who x = is_ref x (record { worker = who; number = n })
