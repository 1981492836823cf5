-- No key of the list is done twice: the positions of done keys lie apart.
use Rattle.std.proofs.Common.{◌≡◌, ℕ, zero, suc, ◌+◌, ◌<◌, ◌≤◌, ◌⊎◌, ⊎_elim, sym, ap, ◌∙◌, subst, arith, Bool, List, [], ◌∷◌, length, set, take, get_or}
use Rattle.std.specs.Prelude.{nat_lt, All}
use Rattle.std.specs.List.{AllPairs, range_with_len}
use Rattle.std.proofs.lemmas.Bool.{cases_lt}
use Rattle.std.proofs.lemmas.List.{get_or-take, length-take}
use Rattle.std.proofs.lemmas.List.Elements.{Contains-get_or}
use Rattle.std.proofs.lemmas.List.FromFn.{get_or-range_with_len, length-range_with_len}
use Rattle.rh_ledger.specs.declared.tally.Kind.{Kind}
use Rattle.rh_world.specs.World.{In, IsFalling, World}
use Rattle.rh_world.specs.Sides.{Side}
use Rattle.rh_words.specs.declared.shape.Shape.{Shape}
use Rattle.rh_words.specs.View.{View, new_view}
use Rattle.rh_rule.specs.Core.{Core}
use Rattle.rh_rule.specs.Rest.{WorldTells}
use Rattle.rh_rule.proofs.Telling.{tells}
use Rattle.rh_order.specs.Claimed.{claimed}
use Rattle.rh_order.proofs.Sharing.{from, rising}
use Rattle.rh_turns.specs.declared.hand.Hand.{Hand}
use Rattle.rh_turns.specs.declared.hand.Share.{Share}
use Rattle.rh_turns.specs.declared.hand.Share.TheVariants.{Piece, Claims}
use Rattle.rh_turns.specs.Hands.{IsClaiming, IsHand, IsShare, positions, positions_of, view_of}
use Rattle.rh_turns.specs.Game.{ArePieces, at_hand, shares_of}
use Rattle.rh_turns.proofs.AtHands.{at_hand_is}

-- ---- the pieces

abbrev pub first_of : Share → ℕ
first_of (Piece first end) = first
first_of (Claims last ended) = 0

abbrev pub end_of : Share → ℕ
end_of (Piece first end) = end
end_of (Claims last ended) = 0

abbrev pub IsPiece : Share → Type 0
IsPiece (Piece first end) = Unit {0}
IsPiece (Claims last ended) = ⊥

pub piece_not_claims : (s : Share) → IsPiece s → (last : ℕ) (ended : Bool) → s ≡ Claims last ended → ⊥
piece_not_claims s piece last ended e = subst IsPiece e piece

-- each worker has one, which begins no earlier than this
pub piece_at : (low : ℕ) (hs : List Hand) (count : ℕ) → ArePieces low (shares_of hs) count → (v : ℕ) (d : Hand) → v < length hs
    → IsPiece (get_or hs v d).share × (low ≤ first_of (get_or hs v d).share)
piece_at low [] count are v d l = absurd (omega (arith, l))
piece_at low (h ∷ hs) count are zero d l = (subst IsPiece (sym are.1) tt, let same : first_of h.share ≡ low = ap first_of are.1 in omega (arith, same))
piece_at low (h ∷ hs) count are (suc v) d l =
    let r = piece_at are.0 hs count are.3 v d (omega (arith, l)) in
    (r.0, omega (arith, r.1, are.2))

-- they begin no later than they end
pub up_to : (low : ℕ) (hs : List Hand) (count : ℕ) → ArePieces low (shares_of hs) count → low ≤ count
up_to low [] count are = omega (arith, are)
up_to low (h ∷ hs) count are = let rest = up_to are.0 hs count are.3 in omega (arith, rest, are.2)

-- the piece of each worker lies within the list
pub piece_within : (low : ℕ) (hs : List Hand) (count : ℕ) → ArePieces low (shares_of hs) count → (v : ℕ) (d : Hand) → v < length hs
    → (first end : ℕ) × ((get_or hs v d).share ≡ Piece first end) × (first ≤ end) × (end ≤ count)
piece_within low [] count are v d l = absurd (omega (arith, l))
piece_within low (h ∷ hs) count are zero d l = (low, are.0, are.1, are.2, up_to are.0 hs count are.3)
piece_within low (h ∷ hs) count are (suc v) d l = piece_within are.0 hs count are.3 v d (omega (arith, l))

in_order : (low : ℕ) (hs : List Hand) (count : ℕ) → ArePieces low (shares_of hs) count → (u v : ℕ) (d : Hand) → u < v → v < length hs
    → end_of (get_or hs u d).share ≤ first_of (get_or hs v d).share
in_order low [] count are u v d less l = absurd (omega (arith, l))
in_order low (h ∷ hs) count are u zero d less l = absurd (omega (arith, less))
in_order low (h ∷ hs) count are zero (suc v) d less l =
    let r = piece_at are.0 hs count are.3 v d (omega (arith, l)) in
    let same : end_of h.share ≡ are.0 = ap end_of are.1 in
    omega (arith, r.1, same)
in_order low (h ∷ hs) count are (suc u) (suc v) d less l = in_order are.0 hs count are.3 u v d (omega (arith, less)) (omega (arith, l))

-- a position is in one piece alone
pub in_one_piece : (hs : List Hand) (count : ℕ) → ArePieces 0 (shares_of hs) count → (u v : ℕ) (d : Hand) → u < length hs → v < length hs → (p : ℕ)
    → (first_of (get_or hs u d).share ≤ p) × (p < end_of (get_or hs u d).share) → (first_of (get_or hs v d).share ≤ p) × (p < end_of (get_or hs v d).share) → u ≡ v
in_one_piece hs count are u v d lu lv p a b = ⊎_elim
    (λ (less : u < v). let order = in_order 0 hs count are u v d less lv in absurd (omega (arith, order, a.1, b.0)))
    (λ (most : v ≤ u). ⊎_elim (λ (less : v < u). let order = in_order 0 hs count are v u d less lu in absurd (omega (arith, order, b.1, a.0))) (λ (least : u ≤ v). omega (arith, most, least)) (cases_lt v u)) (cases_lt u v)

-- another worker with the same piece
pub pieces_set : (low : ℕ) (hs : List Hand) (count who : ℕ) (d next : Hand) → who < length hs → next.share ≡ (get_or hs who d).share → ArePieces low (shares_of hs) count → ArePieces low (shares_of (set hs who next)) count
pieces_set low [] count who d next l same are = are
pieces_set low (h ∷ hs) count zero d next l same are = (are.0, same ∙ are.1, are.2, are.3)
pieces_set low (h ∷ hs) count (suc who) d next l same are = (are.0, are.1, are.2, pieces_set are.0 hs count who d next (omega (arith, l)) same are.3)

-- ---- the positions of one worker

pub in_piece : (z : Shape) (keys : List ℕ) (h : Hand) (s : Share) (i : ℕ) → IsPiece s → IsShare z keys h s → i < length (positions_of z s (view_of h) h.done)
    → (get_or (positions_of z s (view_of h) h.done) i 0 ≡ first_of s + i) × (first_of s + i < end_of s)
in_piece z keys h (Piece first end) i piece o l =
    let size : length (range_with_len first h.done) ≡ h.done = length-range_with_len first h.done in
    (get_or-range_with_len first h.done i 0 (omega (arith, l, size)), omega (arith, l, size, o.0))
in_piece z keys h (Claims last ended) i piece o l = absurd piece

in_claims : (z : Shape) (v : View) (done i : ℕ) → i < length (take done (claimed z v)) → (get_or (take done (claimed z v)) i 0 ≡ get_or (claimed z v) i 0) × (i < length (claimed z v))
in_claims z v done i l =
    let size = length-take done (claimed z v) in
    (get_or-take done (claimed z v) i 0 (omega (arith, l, size)), omega (arith, l, size))

rise_once : (xs : List ℕ) → AllPairs (λ i j. i < j) xs → (i j : ℕ) → i < length xs → j < length xs → get_or xs i 0 ≡ get_or xs j 0 → i ≡ j
rise_once xs rise i j li lj e = ⊎_elim
    (λ (less : i < j). let r = rise i j 0 less lj in absurd (omega (arith, r, e)))
    (λ (most : j ≤ i). ⊎_elim (λ (less : j < i). let r = rise j i 0 less li in absurd (omega (arith, r, e))) (λ (least : i ≤ j). omega (arith, most, least)) (cases_lt j i)) (cases_lt i j)

-- ---- of all workers

module _ (z : Shape) (kind : Kind) (keys words : List ℕ) (hands : List Hand) (w : World) (core : Core w z words (at_hand view_of (new_view [] 0) hands)) (size : length hands ≡ z.workers) (all : All (IsHand z kind keys) hands) (d : Hand) where
  abbrev hand : (v : ℕ) → Hand
  hand v = get_or hands v d

  inside : (v : ℕ) → v < z.workers → v < length hands
  inside v mine = omega (arith, mine, size)

  world_tells : WorldTells w z (at_hand view_of (new_view [] 0) hands) core.side
  world_tells = tells w z words (at_hand view_of (new_view [] 0) hands) core

  claims_are : (v : ℕ) → v < z.workers → (view_of (hand v)).side.claims ≡ (core.side v).claims
  claims_are v mine = ap (λ (x : View). x.side.claims) (sym (at_hand_is view_of (new_view [] 0) hands v d (inside v mine))) ∙ ap (λ (s : Side). s.claims) (world_tells.kept v mine)

  module _ (are : ArePieces 0 (shares_of hands) (length keys)) where
    of_piece : (v i : ℕ) → v < z.workers → i < length (positions z (hand v)) → (get_or (positions z (hand v)) i 0 ≡ first_of (hand v).share + i) × (first_of (hand v).share + i < end_of (hand v).share)
    of_piece v i mine l = in_piece z keys (hand v) (hand v).share i (piece_at 0 hands (length keys) are v d (inside v mine)).0 (all v d (inside v mine)).share l

    pieces_once : (v i j : ℕ) → v < z.workers → i < length (positions z (hand v)) → j < length (positions z (hand v)) → get_or (positions z (hand v)) i 0 ≡ get_or (positions z (hand v)) j 0 → i ≡ j
    pieces_once v i j mine li lj e = let a = of_piece v i mine li in let b = of_piece v j mine lj in omega (arith, a.0, b.0, e)

    pieces_apart : (u v i j : ℕ) → u < v → u < z.workers → v < z.workers → i < length (positions z (hand u)) → j < length (positions z (hand v)) → get_or (positions z (hand u)) i 0 ≡ get_or (positions z (hand v)) j 0 → ⊥
    pieces_apart u v i j less yours mine li lj e =
        let a = of_piece u i yours li in
        let b = of_piece v j mine lj in
        let order : end_of (hand u).share ≤ first_of (hand v).share = in_order 0 hands (length keys) are u v d less (inside v mine) in
        omega (arith, a.0, a.1, b.0, b.1, order, e)

  module _ (are : All IsClaiming hands) where
    of_claims : (v i : ℕ) → v < z.workers → i < length (positions z (hand v)) → (get_or (positions z (hand v)) i 0 ≡ get_or (claimed z (view_of (hand v))) i 0) × (i < length (claimed z (view_of (hand v))))
    of_claims v i mine l =
        let share = (are v d (inside v mine)).2 in
        let same : positions z (hand v) ≡ take (hand v).done (claimed z (view_of (hand v))) = ap (λ (s : Share). positions_of z s (view_of (hand v)) (hand v).done) share in
        let r = in_claims z (view_of (hand v)) (hand v).done i (subst (λ (l : List ℕ). i < length l) same l) in
        (ap (λ (l : List ℕ). get_or l i 0) same ∙ r.0, r.1)

    claims_once : (v i j : ℕ) → v < z.workers → i < length (positions z (hand v)) → j < length (positions z (hand v)) → get_or (positions z (hand v)) i 0 ≡ get_or (positions z (hand v)) j 0 → i ≡ j
    claims_once v i j mine li lj e =
        let a = of_claims v i mine li in
        let b = of_claims v j mine lj in
        let falls = subst IsFalling (sym (claims_are v mine)) (world_tells.shared.once v) in
        rise_once (claimed z (view_of (hand v))) (rising (λ n. nat_lt n z.keys) (view_of (hand v)).side.claims falls) i j a.1 b.1 (sym a.0 ∙ e ∙ b.0)

    it_claims : (v i : ℕ) → v < z.workers → i < length (positions z (hand v)) → In (get_or (positions z (hand v)) i 0) (core.side v).claims
    it_claims v i mine l =
        let a = of_claims v i mine l in
        subst (λ (n : ℕ). In n (core.side v).claims) (sym a.0)
        (subst (In (get_or (claimed z (view_of (hand v))) i 0)) (claims_are v mine)
        (from (λ n. nat_lt n z.keys) (view_of (hand v)).side.claims (get_or (claimed z (view_of (hand v))) i 0) (Contains-get_or (claimed z (view_of (hand v))) i 0 a.1)).0)

    claims_apart : (u v i j : ℕ) → u < z.workers → v < z.workers → i < length (positions z (hand u)) → j < length (positions z (hand v)) → get_or (positions z (hand u)) i 0 ≡ get_or (positions z (hand v)) j 0 → u ≡ v
    claims_apart u v i j yours mine li lj e = world_tells.shared.one_worker u v (get_or (positions z (hand u)) i 0) (it_claims u i yours li) (subst (λ (n : ℕ). In n (core.side v).claims) (sym e) (it_claims v j mine lj))

  module _ (dealt : ArePieces 0 (shares_of hands) (length keys) ⊎ All IsClaiming hands) where
    once : (v i j : ℕ) → v < z.workers → i < length (positions z (hand v)) → j < length (positions z (hand v)) → get_or (positions z (hand v)) i 0 ≡ get_or (positions z (hand v)) j 0 → i ≡ j
    once v i j mine li lj e = ⊎_elim (λ (are : ArePieces 0 (shares_of hands) (length keys)). pieces_once are v i j mine li lj e) (λ (are : All IsClaiming hands). claims_once are v i j mine li lj e) dealt

    one_worker : (u v i j : ℕ) → u < z.workers → v < z.workers → i < length (positions z (hand u)) → j < length (positions z (hand v)) → get_or (positions z (hand u)) i 0 ≡ get_or (positions z (hand v)) j 0 → u ≡ v
    one_worker u v i j yours mine li lj e = ⊎_elim
        (λ (are : ArePieces 0 (shares_of hands) (length keys)). ⊎_elim
        (λ (less : u < v). absurd (pieces_apart are u v i j less yours mine li lj e))
        (λ (most : v ≤ u). ⊎_elim (λ (less : v < u). absurd (pieces_apart are v u j i less mine yours lj li (sym e))) (λ (least : u ≤ v). omega (arith, most, least)) (cases_lt v u)) (cases_lt u v))
        (λ (are : All IsClaiming hands). claims_apart are u v i j yours mine li lj e) dealt

    pub apart : (u v i j : ℕ) → u < z.workers → v < z.workers → i < length (positions z (hand u)) → j < length (positions z (hand v)) → get_or (positions z (hand u)) i 0 ≡ get_or (positions z (hand v)) j 0 → (u ≡ v) × (i ≡ j)
    apart u v i j yours mine li lj e =
        let same : u ≡ v = one_worker u v i j yours mine li lj e in
        let lists : positions z (hand v) ≡ positions z (hand u) = ap (λ (x : ℕ). positions z (hand x)) (sym same) in
        (same, once u i j yours li (subst (λ (l : List ℕ). j < length l) lists lj) (e ∙ ap (λ (l : List ℕ). get_or l j 0) lists))
