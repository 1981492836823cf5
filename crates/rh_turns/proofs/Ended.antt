-- What the workers of a player have made once all their keys are done.
use Rattle.std.proofs.Common.{◌≡◌, ℕ, zero, suc, ◌+◌, ◌-◌, ◌<◌, ◌≤◌, inl, ⊎_elim, sym, refl, ap, ◌∙◌, subst, arith, Bool, false, Some, None, List, [], ◌∷◌, ◌++◌, length, map, get_or}
use Rattle.std.specs.Prelude.{slice_index, slice_index_or, All}
use Rattle.std.specs.List.{Contains, range_with_len}
use Rattle.std.specs.FinSet.{contains}
use Rattle.std.proofs.lemmas.Bool.{cases_lt}
use Rattle.std.proofs.lemmas.List.{get_or-map, get_or_default, length-map, map-append, take_all}
use Rattle.std.proofs.lemmas.List.FromFn.{fill_by_all, get_or-range_with_len, length-range_with_len}
use Rattle.rh_layout.specs.Layout.{Keys, Layout, keys_of}
use Rattle.rh_ledger.specs.declared.tally.Kind.{Kind}
use Rattle.rh_ledger.specs.declared.tally.Kind.TheVariants.{Ask}
use Rattle.rh_ledger.specs.Phase.{looked_up, set_after, tally_of}
use Rattle.rh_words.specs.declared.shape.Shape.{Shape}
use Rattle.rh_words.specs.View.{View, new_view}
use Rattle.rh_rule.specs.Rest.{AllRest}
use Rattle.rh_acts.specs.Workers.{LeavesRoom, counted, joined, piece, sum_of_all}
use Rattle.rh_ledger.specs.Tally.{tally_by}
use Rattle.rh_order.specs.Claimed.{FoundEnd, claimed}
use Rattle.rh_order.specs.Laws.{FinalSpec}
use Rattle.rh_order.specs.Words.{cells_held}
use Rattle.rh_order.proofs.Ending.{held_now, run_ends, same_sums}
use Rattle.rh_order.proofs.Sharing.{claims_at, claims_size, run_shared_ends, shared_out}
use Rattle.rh_turns.specs.declared.hand.Hand.{Hand}
use Rattle.rh_turns.specs.declared.hand.Share.{Share}
use Rattle.rh_turns.specs.declared.hand.Share.TheVariants.{Piece, Claims}
use Rattle.rh_turns.specs.Hands.{IsAtEnd, IsClaiming, IsHand, IsIdle, IsShare, done_keys, keys_for, share_keys, positions, positions_of, view_of}
use Rattle.rh_turns.specs.Game.{AllFinished, ArePieces, Game, IsDoneAt, Plays, at_hand, changed_at, done_at, keep, positions_at, run_of, shares_of}
use Rattle.rh_turns.specs.Laws.{EndsWith}
use Rattle.rh_turns.proofs.AtHands.{at_hand_is}
use Rattle.rh_turns.proofs.Apart.{IsPiece, end_of, first_of, piece_at, up_to}
use Rattle.rh_turns.proofs.Playing.{hand_of, in_hands, plays_stopped, some_hand}
use Rattle.rh_turns.proofs.Telling.{plays_tells, answers_size}

-- ---- the pieces together

ranges_join : (first m n : ℕ) → range_with_len first (m + n) ≡ range_with_len first m ++ range_with_len (first + m) n
ranges_join first zero n = (λ i. range_with_len (start i) (none i))
  where
    none : zero + n ≡ n
    none = omega arith

    start : first ≡ first + zero
    start = omega arith
ranges_join first (suc m) n =
    let one : suc m + n ≡ suc (m + n) = omega arith in
    let start : first + 1 + m ≡ first + suc m = omega arith in
    ap (range_with_len first) one
    ∙ ap (λ (l : List ℕ). first ∷ l) (ranges_join (first + 1) m n ∙ ap (λ (k : ℕ). range_with_len (first + 1) m ++ range_with_len k n) start)

module _ (keys : List ℕ) where
  -- the keys at so many positions
  abbrev keys_at_positions : (first n : ℕ) → List ℕ
  keys_at_positions first n = map (slice_index keys) (range_with_len first n)

  parts_join : (first mid end : ℕ) → first ≤ mid → mid ≤ end → keys_at_positions first (mid - first) ++ keys_at_positions mid (end - mid) ≡ keys_at_positions first (end - first)
  parts_join first mid end low high =
      let all : end - first ≡ (mid - first) + (end - mid) = omega (arith, low, high) in
      let next : first + (mid - first) ≡ mid = omega (arith, low) in
      ap (λ (k : ℕ). keys_at_positions first (mid - first) ++ keys_at_positions k (end - mid)) (sym next)
      ∙ sym (map-append (slice_index keys) (range_with_len first (mid - first)) (range_with_len (first + (mid - first)) (end - mid)))
      ∙ ap (map (slice_index keys)) (sym (ranges_join first (mid - first) (end - mid))) ∙ ap (keys_at_positions first) (sym all)

  pieces_join : (low : ℕ) (hs : List Hand) (count : ℕ) → ArePieces low (shares_of hs) count → joined (map (keys_for keys) hs) ≡ keys_at_positions low (count - low)
  pieces_join low [] count are = let none : zero ≡ count - low = omega (arith, are) in ap (keys_at_positions low) none
  pieces_join low (h ∷ hs) count are =
      (λ i. share_keys keys (are.1 i) ++ pieces_join are.0 hs count are.3 i) ∙ parts_join low are.0 count are.2 (up_to are.0 hs count are.3)

  pub pieces_are : (hs : List Hand) → ArePieces 0 (shares_of hs) (length keys) → joined (map (keys_for keys) hs) ≡ keys
  pieces_are hs are =
      let whole : length keys - 0 ≡ length keys = omega arith in
      pieces_join 0 hs (length keys) are ∙ ap (keys_at_positions 0) whole ∙ sym (fill_by_all (slice_index keys) keys (length keys) 0 refl (λ k l. refl))

-- a position of the list is in the piece of a worker
in_some_piece : (low : ℕ) (hs : List Hand) (count : ℕ) → ArePieces low (shares_of hs) count → (p : ℕ) (d : Hand) → low ≤ p → p < count
    → (v : ℕ) × (v < length hs) × (first_of (get_or hs v d).share ≤ p) × (p < end_of (get_or hs v d).share)
in_some_piece low [] count are p d least inside = absurd (omega (arith, are, least, inside))
in_some_piece low (h ∷ hs) count are p d least inside = ⊎_elim
    (λ (here : p < are.0).
    let first : first_of h.share ≡ low = ap first_of are.1 in
    let end : end_of h.share ≡ are.0 = ap end_of are.1 in
    (0, omega arith, omega (arith, first, least), omega (arith, end, here)))
    (λ (later : are.0 ≤ p). let r = in_some_piece are.0 hs count are.3 p d later inside in (suc r.0, omega (arith, r.1), r.2, r.3)) (cases_lt p are.0)

-- ---- a worker that has done all its keys

-- of a piece
piece_done : (z : Shape) (keys : List ℕ) (v : View) (s : Share) (done : ℕ) → IsPiece s → IsAtEnd s done → (map (slice_index keys) (positions_of z s v done) ≡ share_keys keys s) × (length (positions_of z s v done) ≡ done) × (first_of s + done ≡ end_of s)
piece_done z keys v (Piece first end) done piece at_end =
    let size : done ≡ end - first = omega (arith, at_end) in
    (ap (λ (n : ℕ). map (slice_index keys) (range_with_len first n)) size, length-range_with_len first done, at_end)
piece_done z keys v (Claims last ended) done piece at_end = absurd piece

piece_position : (z : Shape) (v : View) (s : Share) (done j : ℕ) → IsPiece s → j < done → slice_index (positions_of z s v done) j ≡ first_of s + j
piece_position z v (Piece first end) done j piece l = get_or-range_with_len first done j 0 l
piece_position z v (Claims last ended) done j piece l = absurd piece

-- of the list that is shared
claims_done : (z : Shape) (keys : List ℕ) (h : Hand) (last : ℕ) (ended : Bool) → h.share ≡ Claims last ended → IsHand z h.worker.kind keys h → IsIdle h → IsAtEnd h.share h.done
    → (positions z h ≡ claimed z (view_of h)) × FoundEnd z (view_of h) × (length (claimed z (view_of h)) ≡ h.done) × (z.keys ≡ length keys)
claims_done z keys h last ended is hand idle at_end =
    let o = subst (IsShare z keys h) is hand.share in
    let size : length (claimed z (view_of h)) ≡ h.done = o.1.idle idle in (
      ap (λ (s : Share). positions_of z s (view_of h) h.done) is ∙ take_all h.done (claimed z (view_of h)) (omega (arith, size)),
      o.1.end (subst (λ (s : Share). IsAtEnd s h.done) is at_end),
      size,
      o.0,
    )

-- ---- the end

module _ (g : Game) (plays : Plays g) (finished : AllFinished g) where
  abbrev z : Shape
  z = g.shape

  abbrev S : Keys
  S = keys_of g.opening

  abbrev hand : (v : ℕ) → Hand
  hand v = get_or g.hands v (some_hand g plays)

  rest : AllRest z (keep g)
  rest = plays_stopped g plays (λ k d l. inl (finished k d l))

  at_v : {A : Type 0} (f : Hand → A) (default : A) (v : ℕ) → v < z.workers → at_hand f default g.hands v ≡ f (hand v)
  at_v f default v mine = at_hand_is f default g.hands v (some_hand g plays) (in_hands g plays v mine)

  ended : (v : ℕ) → v < z.workers → IsIdle (hand v) × IsAtEnd (hand v).share (hand v).done
  ended v mine = finished v (some_hand g plays) (in_hands g plays v mine)

  -- each worker counts its keys by their answers
  tally_is : {list : List ℕ} → FinalSpec (run_of g plays.own_answers) S list → sum_of_all (λ v. tally_by g.kind (length (positions_at g v)) (changed_at g v)) z.workers ≡ tally_of g.kind S list
  tally_is ends =
      same_sums (λ v. tally_by g.kind (length (positions_at g v)) (changed_at g v)) (λ v. counted g.kind (plays.own_answers v)) z.workers
      (λ v mine i. tally_by g.kind (sym (answers_size g plays v mine) i) (plays.changed v mine i)) ∙ ends.tally

  -- an answer is that of its key
  answer_is : g.kind ≡ Ask → (p : ℕ) → p < length g.keys → IsDoneAt g p → slice_index_or g.answers p None ≡ Some (slice_index_or (looked_up S g.keys) p false)
  answer_is asks p inside done = (plays_tells g plays).answers asks p done ∙ ap Some (sym (get_or-map (contains S) g.keys p 0 false inside))

  -- each worker has a piece
  module _ (are : ArePieces 0 (shares_of g.hands) (length g.keys)) where
    abbrev pieces : List (List ℕ)
    pieces = map (keys_for g.keys) g.hands

    has_piece : (v : ℕ) → v < z.workers → IsPiece (hand v).share
    has_piece v mine = (piece_at 0 g.hands (length g.keys) are v (some_hand g plays) (in_hands g plays v mine)).0

    of_piece : (v : ℕ) → v < z.workers → (done_keys z g.keys (hand v) ≡ keys_for g.keys (hand v)) × (length (positions z (hand v)) ≡ (hand v).done) × (first_of (hand v).share + (hand v).done ≡ end_of (hand v).share)
    of_piece v mine = piece_done z g.keys (view_of (hand v)) (hand v).share (hand v).done (has_piece v mine) (ended v mine).1

    piece_is : (v : ℕ) → v < z.workers → piece pieces v ≡ keys_for g.keys (hand v)
    piece_is v mine = get_or-map (keys_for g.keys) g.hands v (some_hand g plays) [] (in_hands g plays v mine)

    all_done : (v : ℕ) → v < z.workers → done_at g v ≡ piece pieces v
    all_done v mine = at_v (done_keys z g.keys) [] v mine ∙ (of_piece v mine).0 ∙ sym (piece_is v mine)

    joined_is : joined pieces ≡ g.keys
    joined_is = pieces_are g.keys g.hands are

    by_pieces : FinalSpec (run_of g plays.own_answers) S (joined pieces)
    by_pieces = run_ends (run_of g plays.own_answers) S pieces plays.running rest plays.opening
        (length-map g.hands (keys_for g.keys) ∙ plays.workers) all_done (subst (λ (l : List ℕ). LeavesRoom g.kind z.bits S l) (sym joined_is) plays.room)

    answers_pieces : g.kind ≡ Ask → (p : ℕ) → p < length g.keys → slice_index_or g.answers p None ≡ Some (slice_index_or (looked_up S g.keys) p false)
    answers_pieces asks p inside =
        let at = in_some_piece 0 g.hands (length g.keys) are p (some_hand g plays) (omega arith) inside in
        let v : ℕ = at.0 in
        let mine : v < z.workers = omega (arith, at.1, plays.workers) in
        let h : Hand = hand v in
        let j : ℕ = p - first_of h.share in
        let is = of_piece v mine in
        let within : j < h.done = omega (arith, at.2, at.3, is.2) in
        let where_it_is : first_of h.share + j ≡ p = omega (arith, at.2) in
        let position : slice_index (positions z h) j ≡ p = piece_position z (view_of h) h.share h.done j (has_piece v mine) within ∙ where_it_is in
        let positions_are : positions_at g v ≡ positions z h = at_v (positions z) [] v mine in
        answer_is asks p inside (v, j, mine, omega (arith, within, is.1, ap length positions_are), ap (λ (l : List ℕ). slice_index l j) positions_are ∙ position)

    ends_pieces : EndsWith g
    ends_pieces = record {
      now = held_now (run_of g plays.own_answers) plays.running rest;
      layout = subst (λ (l : List ℕ). Layout (cells_held z g.words) z.bits (set_after g.kind S l)) joined_is by_pieces.layout;
      tally = tally_is by_pieces ∙ ap (tally_of g.kind S) joined_is;
      answers = answers_pieces;
    }

  -- all share the list
  module _ (are : All IsClaiming g.hands) where
    of_claims : (v : ℕ) → v < z.workers → (positions z (hand v) ≡ claimed z (view_of (hand v))) × FoundEnd z (view_of (hand v)) × (length (claimed z (view_of (hand v))) ≡ (hand v).done) × (z.keys ≡ length g.keys)
    of_claims v mine =
        let c = are v (some_hand g plays) (in_hands g plays v mine) in
        let hand_is : IsHand z g.kind g.keys (hand v) = hand_of g plays v mine (some_hand g plays) in
        claims_done z g.keys (hand v) c.0 c.1 c.2 (subst (λ (k : Kind). IsHand z k g.keys (hand v)) (sym hand_is.kind_is) hand_is) (ended v mine).0 (ended v mine).1

    kept_is : (v : ℕ) → v < z.workers → keep g v ≡ view_of (hand v)
    kept_is v mine = at_v view_of (new_view [] 0) v mine

    found : (v : ℕ) → v < z.workers → FoundEnd z (keep g v)
    found v mine = subst (FoundEnd z) (sym (kept_is v mine)) (of_claims v mine).1

    positions_claimed : (v : ℕ) → v < z.workers → positions_at g v ≡ claimed z (keep g v)
    positions_claimed v mine = at_v (positions z) [] v mine ∙ (of_claims v mine).0 ∙ ap (claimed z) (sym (kept_is v mine))

    all_claimed_done : (v : ℕ) → v < z.workers → done_at g v ≡ map (slice_index g.keys) (claimed z (keep g v))
    all_claimed_done v mine = at_v (done_keys z g.keys) [] v mine ∙ ap (map (slice_index g.keys)) ((of_claims v mine).0 ∙ ap (claimed z) (sym (kept_is v mine)))

    by_claims : FinalSpec (run_of g plays.own_answers) S g.keys
    by_claims = run_shared_ends (run_of g plays.own_answers) S g.keys plays.running rest plays.opening
        (sym (of_claims 0 g.shape.some_worker).3) found all_claimed_done plays.room

    answers_claims : g.kind ≡ Ask → (p : ℕ) → p < length g.keys → slice_index_or g.answers p None ≡ Some (slice_index_or (looked_up S g.keys) p false)
    answers_claims asks p inside =
        let run = plays.running in
        let all = shared_out run.world z g.words (keep g) run.core found in
        let long : z.keys ≡ length g.keys = (of_claims 0 g.shape.some_worker).3 in
        let one = all.all p (omega (arith, inside, long)) in
        let v : ℕ = one.0 in
        let mine : v < z.workers = omega (arith, one.1, claims_size run.world z g.words (keep g) run.core) in
        let here : Contains (claimed z (keep g v)) p = subst (λ (l : List ℕ). Contains l p) (claims_at run.world z g.words (keep g) run.core v mine) one.2 in
        let j : ℕ = here.0 in
        let position : slice_index (claimed z (keep g v)) j ≡ p = get_or_default (claimed z (keep g v)) j 0 p here.1 ∙ here.2 in
        let positions_are : positions_at g v ≡ claimed z (keep g v) = positions_claimed v mine in
        answer_is asks p inside (v, j, mine, omega (arith, here.1, ap length positions_are), ap (λ (l : List ℕ). slice_index l j) positions_are ∙ position)

    ends_claims : EndsWith g
    ends_claims = record {
      now = held_now (run_of g plays.own_answers) plays.running rest;
      layout = by_claims.layout;
      tally = tally_is by_claims;
      answers = answers_claims;
    }

  pub plays_ends : EndsWith g
  plays_ends = ⊎_elim ends_pieces ends_claims plays.dealt
