-- The first fault of a start, and what is so where there is none.
use Rattle.std.proofs.Common.{◌≡◌, ℕ, zero, suc, ◌+◌, ◌^◌, ◌<◌, ◌≤◌, sym, refl, ap, ◌∙◌, subst, arith, Option, Some, None, Bool, true, false, true≢false, ◌&&◌, not, if◌then◌else◌, count_by, List, [], ◌∷◌, length, take, get_or}
use Rattle.std.specs.Prelude.{nat_le, All, IsErr, IsErrAnd, Result, Ok, Err, Vec}
use Rattle.std.specs.Global.{Global}
use Rattle.std.proofs.Math.Nat.{pow-le-pow_right}
use Rattle.std.proofs.lemmas.Bool.{and_right, leb-false, leb-true}
use Rattle.std.proofs.lemmas.List.{get_or-map, length-map}
use Rattle.std.proofs.lemmas.List.Folds.{list_all-append, list_all_at}
use Rattle.rh_layout.specs.Key.{IsKey, is_full}
use Rattle.rh_layout.specs.Layout.{IsLayout, keys_of}
use Rattle.rh_layout.specs.Test.{layout_test}
use Rattle.rh_layout.specs.declared.limits.TheConstants.{MAX_KEY}
use Rattle.rh_ledger.specs.declared.tally.Kind.{Kind}
use Rattle.rh_ledger.specs.Phase.{most_added}
use Rattle.rh_words.specs.declared.limits.TheConstants.{MAX_WORKERS}
use Rattle.rh_acts.specs.Workers.{LeavesRoom}
use Rattle.rh_turns.specs.declared.hand.Hand.{Hand}
use Rattle.rh_turns.specs.declared.hand.Share.{Share}
use Rattle.rh_turns.specs.Hands.{share_keys}
use Rattle.rh_turns.specs.Game.{Game, keys_at, shares_of}
use Rattle.rh_turns.proofs.AtHands.{at_hand_is, first_of_all}
use Rattle.rh_interleaving.specs.declared.fault.PlayFault.{PlayFault}
use Rattle.rh_interleaving.specs.declared.fault.PlayFault.TheVariants.{NotALayout, NoRoom, BadWorkers, BadKey, Memory}
use Rattle.rh_interleaving.specs.SetUp.{AreDealt}
use Rattle.rh_interleaving.specs.Start.{MakesPlayer, Refuses, are_keys, keys_of_pieces, start_fault, table_fault, then_keys}
use Rattle.rh_interleaving.proofs.Dealing.{joined_more}
use Rattle.rh_interleaving.proofs.Room.{leaves_room}

-- ---- the keys

-- one piece more
pub keys_more : (pieces : List (Vec ℕ Global)) (i : ℕ) (piece d : Vec ℕ Global) → i < length pieces → piece ≡ get_or pieces i d
    → are_keys (keys_of_pieces (take (i + 1) pieces)) ≡ (are_keys (keys_of_pieces (take i pieces)) && are_keys piece.items)
keys_more pieces i piece d inside is =
    ap are_keys (sym (joined_more pieces i d inside)) ∙ list_all-append (λ k. nat_le k MAX_KEY) (keys_of_pieces (take i pieces)) (get_or pieces i d).items
    ∙ ap (λ (x : Vec ℕ Global). are_keys (keys_of_pieces (take i pieces)) && are_keys x.items) (sym is)

-- a piece has a key out of range
pub bad_piece : (pieces : List (Vec ℕ Global)) (i : ℕ) (piece d : Vec ℕ Global) → i < length pieces → piece ≡ get_or pieces i d → are_keys piece.items ≡ false → are_keys (keys_of_pieces pieces) ≡ false
bad_piece (x ∷ pieces) zero piece d inside is bad =
    list_all-append (λ k. nat_le k MAX_KEY) x.items (keys_of_pieces pieces) ∙ ap (λ (b : Bool). b && are_keys (keys_of_pieces pieces)) (ap (λ (p : Vec ℕ Global). are_keys p.items) (sym is) ∙ bad)
bad_piece (x ∷ pieces) (suc i) piece d inside is bad =
    list_all-append (λ k. nat_le k MAX_KEY) x.items (keys_of_pieces pieces) ∙ and_right (are_keys x.items) (are_keys (keys_of_pieces pieces)) (bad_piece pieces i piece d (omega (arith, inside)) is bad)
bad_piece [] i piece d inside is bad = absurd (omega (arith, inside))

pub all_keys : (keys : List ℕ) → are_keys keys ≡ true → All IsKey keys
all_keys keys are i d inside = go (nat_le (get_or keys i d) MAX_KEY) refl
  where
    go : (b : Bool) → nat_le (get_or keys i d) MAX_KEY ≡ b → get_or keys i d ≤ MAX_KEY
    go true is = leb-true (get_or keys i d) MAX_KEY is
    go false is = absurd (true≢false (sym are ∙ list_all_at (λ k. nat_le k MAX_KEY) keys i d inside is))

-- ---- the table and the workers

abbrev is_some : Option PlayFault → Bool
is_some None = false
is_some (Some fault) = true

module _ (bits : ℕ) (cells : List ℕ) (workers more : ℕ) (none : table_fault bits cells workers more ≡ None) where
  says : (a b c d : Bool) → layout_test bits cells ≡ a → nat_le (2 ^ bits) (count_by is_full cells + more) ≡ b → nat_le 1 workers ≡ c → nat_le workers MAX_WORKERS ≡ d
      → (if not a then Some NotALayout else if b then Some NoRoom else if not (c && d) then Some BadWorkers else None) ≡ None
      → (count_by is_full cells + more < 2 ^ bits) × (1 ≤ workers) × (workers ≤ MAX_WORKERS)
  says true false true true layout room some few e = (leb-false (2 ^ bits) (count_by is_full cells + more) room, leb-true 1 workers some, leb-true workers MAX_WORKERS few)
  says false b c d layout room some few e = absurd (true≢false (ap is_some e))
  says true true c d layout room some few e = absurd (true≢false (ap is_some e))
  says true false false d layout room some few e = absurd (true≢false (ap is_some e))
  says true false true false layout room some few e = absurd (true≢false (ap is_some e))

  pub table_says : (count_by is_full cells + more < 2 ^ bits) × (1 ≤ workers) × (workers ≤ MAX_WORKERS)
  table_says =
      says (layout_test bits cells) (nat_le (2 ^ bits) (count_by is_full cells + more)) (nat_le 1 workers) (nat_le workers MAX_WORKERS) refl refl refl refl none

-- ---- the start

module _ (kind : Kind) (bits : ℕ) (cells : List ℕ) (workers : ℕ) (keys : List ℕ) where
  abbrev table : Option PlayFault
  table = table_fault bits cells workers (most_added kind keys)

  abbrev fault : Option PlayFault
  fault = start_fault kind bits cells workers keys

  pub refuses_key : table ≡ None → are_keys keys ≡ false → Refuses fault BadKey
  refuses_key none bad =
      subst (λ (f : Option PlayFault). Refuses (then_keys f keys) BadKey) (sym none) (subst (λ (b : Bool). Refuses (if b then None else Some BadKey) BadKey) (sym bad) refl)

  pub no_fault : table ≡ None → are_keys keys ≡ true → fault ≡ None
  no_fault none good = ap (λ (f : Option PlayFault). then_keys f keys) none ∙ ap (λ (b : Bool). if b then None else Some BadKey) good

  pub refuses_memory : table ≡ None → are_keys keys ≡ true → Refuses fault Memory
  refuses_memory none good = subst (λ (f : Option PlayFault). Refuses f Memory) (sym (no_fault none good)) refl

  module _ (none : table ≡ None) (layout : IsLayout bits cells) where
    said : (count_by is_full cells + most_added kind keys < 2 ^ bits) × (1 ≤ workers) × (workers ≤ MAX_WORKERS)
    said = table_says bits cells workers (most_added kind keys) none

    pub are_workers : (0 < workers) × (workers ≤ MAX_WORKERS)
    are_workers = (said.1, said.2)

    pub has_room : LeavesRoom kind bits (keys_of cells) keys
    has_room = leaves_room kind bits cells keys layout said.0

-- ---- the pieces of the workers

pub pieces_are : (pieces : List (Vec ℕ Global)) (shares : List Share) (g : Game) → shares_of g.hands ≡ shares → AreDealt g.keys shares pieces
    → (v : ℕ) (other : Vec ℕ Global) → v < length pieces → keys_at g v ≡ (get_or pieces v other).items
pieces_are pieces shares g shares_are dealt v other inside =
    let many : length g.hands ≡ length pieces = sym (length-map g.hands (λ (h : Hand). h.share)) ∙ ap length shares_are ∙ dealt.size in
    let here : v < length g.hands = omega (arith, inside, many) in
    let h : Hand = first_of_all g.hands (omega (arith, here)) in
    at_hand_is (λ h. share_keys g.keys h.share) [] g.hands v h here ∙ ap (share_keys g.keys) (sym (get_or-map (λ (x : Hand). x.share) g.hands v h h.share here) ∙ ap (λ (ss : List Share). get_or ss v h.share) shares_are)
    ∙ dealt.each v h.share other inside

-- a growth was refused
pub made_none : (first : Option PlayFault) (IsMade : Game → Type 0) (r : Result Game PlayFault) (Gives : PlayFault → Type 0) → IsErr r → IsErrAnd r Gives → ((given : PlayFault) → Gives given → given ≡ Memory)
    → Refuses first Memory → MakesPlayer first IsMade r
made_none first IsMade (Ok g) Gives bad gives is refuses = absurd (true≢false (sym bad))
made_none first IsMade (Err given) Gives bad gives is refuses = subst (Refuses first) (sym (is given gives)) refuses

-- ---- the rooms

pub few_cells : (bits : ℕ) → bits ≤ 18 → 2 ^ bits ≤ 2 ^ 18
few_cells bits few = pow-le-pow_right (omega arith) few
