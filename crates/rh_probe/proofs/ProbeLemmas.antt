-- The search for a key's offset, cell by cell.
use Rattle.std.proofs.Common.{◌≡◌, ℕ, ◌+◌, ◌-◌, ◌*◌, ◌%◌, ◌^◌, ◌<◌, ◌≤◌, inl, inr, ap, ◌∙◌, arith, List, length}
use Rattle.std.proofs.lemmas.Bool.{cases_lt}
use Rattle.std.proofs.lemmas.Nat.{one_shl}
use Rattle.rh_layout.specs.Round.{cell_ahead}
use Rattle.rh_layout.specs.Key.{IsBits}
use Rattle.rh_layout.specs.Order.{home_of, dist_of}
use Rattle.rh_layout.specs.Layout.{IsBeatenAt, HasFree}
use Rattle.rh_layout.proofs.RoundLemmas.{reduced, ahead_cases, steps_below, cell_ahead-next, cell_ahead-steps}
use Rattle.rh_layout.proofs.LayoutLemmas.{at, low_of}
use Rattle.rh_probe.specs.Segment.{IsAway}

pub next_is : (n c : ℕ) → c < n → ((c + 1 < n) → c + 1 ≡ (c + 1) % n) × (n ≤ c + 1 → 0 ≡ (c + 1) % n)
next_is n c c_in = (λ less. grind (arith, reduced n (c + 1) (omega arith)), λ past. grind (arith, reduced n (c + 1) (omega arith)))

pub after_ahead : (n from i : ℕ) → from < n → i < n → from + i < n → from + i ≡ cell_ahead n from i
after_ahead n from i p q less = grind (arith, ahead_cases n from i p q)

pub after_round : (n from i : ℕ) → from < n → i < n → n ≤ from + i → from + i - n ≡ cell_ahead n from i
after_round n from i p q past = grind (arith, ahead_cases n from i p q)

pub ruleset after = (after_ahead, after_round)

-- the cell where a walk round the table begins, and one step of it
pub walk_starts : (n h cell : ℕ) → h < n → cell ≡ h → cell ≡ cell_ahead n h 0
walk_starts n h cell h_in e = grind (arith, ahead_cases n h 0 h_in (omega arith))

pub walk_goes_on : (n size h i cell next : ℕ) → size ≡ n → h < n → i < n → cell ≡ cell_ahead n h i → next ≡ (cell + 1) % size → next ≡ cell_ahead n h (i + 1)
walk_goes_on n size h i cell next same h_in i_in e f = f ∙ ap (λ m. (cell + 1) % m) same ∙ ap (λ c. (c + 1) % n) e ∙ cell_ahead-next n h i h_in i_in

-- each cell less than i steps from the home of k holds a key that beats k there
abbrev pub IsPassed : (b : ℕ) (cells : List ℕ) (k i : ℕ) → Type 0
IsPassed b cells k i = (c : ℕ) → c < 2 ^ b → dist_of b c k < i → IsBeatenAt cells b c k

pub passed_more : (b : ℕ) (cells : List ℕ) (k i cell : ℕ) → IsBits b → cell ≡ cell_ahead (2 ^ b) (home_of b k) i → IsPassed b cells k i → IsBeatenAt cells b cell k → IsPassed b cells k (i + 1)
passed_more b cells k i cell fits e passed here c c_in below =
    elim (cases_lt (dist_of b c k) i) [
      | inl less ↦ passed c c_in less
      | inr last ↦
          let is : cell ≡ c = e ∙ ap (cell_ahead (2 ^ b) (home_of b k)) (omega arith) ∙ cell_ahead-steps (2 ^ b) (home_of b k) c (low_of b fits k) c_in in
          rw is at here
    ]

pub passed_all : (b : ℕ) (cells : List ℕ) (k i : ℕ) → IsBits b → length cells ≡ 2 ^ b → 2 ^ b ≤ i → IsPassed b cells k i → HasFree cells → ⊥
passed_all b cells k i fits size all passed free =
    let c_in : free.0 < 2 ^ b = omega (arith, free.1) in
    let beaten = passed free.0 c_in (omega (arith, steps_below (2 ^ b) (home_of b k) free.0 (omega arith))) in
    omega (arith, beaten.1.1, free.2)

pub spot_at : (b from i : ℕ) → IsBits b → (from + i) % (1 * 2 ^ b % 18446744073709551616) ≡ cell_ahead (2 ^ b) from i
unfolding cell_ahead
spot_at b from i fits = ap (λ n. (from + i) % n) (one_shl b 64 (omega arith))

pub ruleset spot = (one_shl, spot_at)

pub away_more : (b h : ℕ) (seen : List ℕ) (i j : ℕ) → IsBits b → ((p : ℕ) → i < p → p < j → IsAway b (cell_ahead (2 ^ b) h p) (at seen p)) → IsAway b (cell_ahead (2 ^ b) h j) (at seen j) → (p : ℕ) → i < p → p < j + 1 → IsAway b (cell_ahead (2 ^ b) h p) (at seen p)
away_more b h seen i j fits before here p above below =
    elim (cases_lt p j) [
      | inl less ↦ before p above less
      | inr last ↦ let same : j ≡ p = omega arith in rw same at here
    ]
