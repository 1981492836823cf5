-- Layouts of lists of cells, and ordered circles of what the cells hold.
use Rattle.std.proofs.Common.{◌≡◌, ℕ, ◌^◌, ◌<◌, ap, subst, arith, List, length, get_or}
use Rattle.rh_layout.specs.Round.{cell_ahead}
use Rattle.rh_layout.specs.Key.{IsKey, IsBits, cell_of, key_in}
use Rattle.rh_layout.specs.Order.{home_of, home_in, dist_of, Beats}
use Rattle.rh_layout.specs.Layout.{Keys, Holds, IsBeatenAt, Layout, IsLayout, keys_of}
use Rattle.rh_layout.proofs.HomeLemmas.{is_cell}
use Rattle.rh_layout.proofs.RoundLemmas.{ahead_below}
use Rattle.rh_layout.proofs.OrderLemmas.{Ahead, HoldsAhead, IsOrdered}
use Rattle.rh_layout.proofs.HeldLemmas.{once_from_ordered}
use Rattle.rh_layout.proofs.SetLemmas.{same_keys}
use Rattle.rh_layout.proofs.KeySetLemmas.{holds_from_contains, contains_from_holds}

-- what a cell holds
abbrev pub at : List ℕ → ℕ → ℕ
at cells c = get_or cells c 0

pub low_of : (b : ℕ) → IsBits b → (k : ℕ) → home_of b k < 2 ^ b
low_of b fits k = is_cell b k (omega arith)

pub low_in : (b : ℕ) → IsBits b → (value : ℕ) → home_in b value < 2 ^ b
low_in b fits value = low_of b fits (key_in value)

pub key_in-cell_of : (k : ℕ) → key_in (cell_of k) ≡ k
key_in-cell_of k = omega arith

pub home_in-cell_of : (b k : ℕ) → home_in b (cell_of k) ≡ home_of b k
home_in-cell_of b k = ap (home_of b) (key_in-cell_of k)

-- ---- a key that is beaten, as a number that another is ahead of

pub ahead_from_beats : (b c j k : ℕ) → Beats b c j k → Ahead (2 ^ b) (home_in b) c (cell_of j) (cell_of k)
ahead_from_beats b c j k beats = rw (key_in-cell_of j, key_in-cell_of k) (grind arith)

pub beats_from_ahead : (b c j k : ℕ) → Ahead (2 ^ b) (home_in b) c (cell_of j) (cell_of k) → Beats b c j k
beats_from_ahead b c j k ahead =
    let got = rw (key_in-cell_of j, key_in-cell_of k) at ahead in grind arith

module _ (b : ℕ) (cells : List ℕ) (c : ℕ) where
  pub ahead_from_beaten : (k : ℕ) → IsBeatenAt cells b c k → HoldsAhead (2 ^ b) (home_in b) (at cells) c (cell_of k)
  ahead_from_beaten k beaten = rw beaten.1.1 (omega arith, ahead_from_beats b c beaten.0 k beaten.2)

  pub beaten_from_ahead : (k : ℕ) → c < length cells → HoldsAhead (2 ^ b) (home_in b) (at cells) c (cell_of k) → IsBeatenAt cells b c k
  beaten_from_ahead k c_in ahead =
      let is : at cells c ≡ cell_of (key_in (at cells c)) = omega (arith, ahead.0) in
      (key_in (at cells c), (c_in, is), beats_from_ahead b c (key_in (at cells c)) k (rw is at ahead.1))

  -- a full cell holds its key
  pub holds_its : c < length cells → 0 < at cells c → Holds cells c (key_in (at cells c))
  holds_its c_in some = (c_in, omega arith)

-- ---- a layout is an ordered circle

pub layout_ordered : (cells : List ℕ) (b : ℕ) (S : Keys) → Layout cells b S → IsOrdered (2 ^ b) (home_in b) (at cells)
layout_ordered cells b S layout c c_in some i below =
    let holds = holds_its b cells c (omega (arith, layout.size)) some in
    let beaten = layout.beaten c (key_in (at cells c)) holds i below in
    let is : cell_of (key_in (at cells c)) ≡ at cells c = omega arith in
    rw is at (ahead_from_beaten b cells (cell_ahead (2 ^ b) (home_in b (at cells c)) i) (key_in (at cells c)) beaten)

-- Cells in order are a layout of the keys that they hold.
pub layout_from_ordered : (b : ℕ) (cells : List ℕ) → IsBits b → length cells ≡ 2 ^ b → ((c k : ℕ) → Holds cells c k → IsKey k) → IsOrdered (2 ^ b) (home_in b) (at cells) → IsLayout b cells
layout_from_ordered b cells fits size keys ordered = record {
  bits = fits;
  size = size;
  keys = λ k has. let there = holds_from_contains cells k has in keys there.0 k there.1;
  held = holds_from_contains cells;
  once = λ c d k p q. once_from_ordered (2 ^ b) (home_in b) (at cells) (low_in b fits) ordered c d (cell_of k) (omega (arith, p.0)) (omega (arith, q.0)) (omega arith) p.1 q.1;
  no_other = contains_from_holds cells;
  beaten = λ c k p i below. beaten_in c k p i below;
}
  where
    beaten_in : (c k : ℕ) → Holds cells c k → (i : ℕ) → i < dist_of b c k → IsBeatenAt cells b (cell_ahead (2 ^ b) (home_of b k) i) k
    beaten_in c k p i below =
        let from_home : home_in b (at cells c) ≡ home_of b k = ap (home_of b) (omega (arith, p.1)) in
        let ahead = ordered c (omega (arith, p.0)) (omega (arith, p.1)) i (rw from_home below) in
        let there = subst (λ h. HoldsAhead (2 ^ b) (home_in b) (at cells) (cell_ahead (2 ^ b) h i) (at cells c)) from_home ahead in
        beaten_from_ahead b cells (cell_ahead (2 ^ b) (home_of b k) i) k (rw size (ahead_below (2 ^ b) (home_of b k) i (omega (arith, low_of b fits k))))
        (subst (HoldsAhead (2 ^ b) (home_in b) (at cells) (cell_ahead (2 ^ b) (home_of b k) i)) p.1 there)

-- A layout's set is the set of the keys that its cells hold.
pub layout_keys : (cells : List ℕ) (b : ℕ) (S : Keys) → Layout cells b S → S ≡ keys_of cells
layout_keys cells b S layout =
    same_keys S (keys_of cells)
    (λ q has. let there = layout.held q has in contains_from_holds cells there.0 q there.1)
    (λ q has. let there = holds_from_contains cells q has in layout.no_other there.0 q there.1)

pub layout_own : (cells : List ℕ) (b : ℕ) (S : Keys) → Layout cells b S → IsLayout b cells
layout_own cells b S layout = subst (λ (T : Keys). Layout cells b T) (layout_keys cells b S layout) layout

pub with_same_keys : (cells : List ℕ) (b : ℕ) (T : Keys) → IsLayout b cells → keys_of cells ≡ T → Layout cells b T
with_same_keys cells b T layout same = subst (λ (U : Keys). Layout cells b U) same layout
