-- What a player answers.
use Rattle.std.proofs.Common.{◌≡◌, ℕ, zero, suc, ◌+◌, ◌-◌, ◌<◌, ◌≤◌, ⊎_elim, sym, refl, ap, ◌∙◌, subst, arith, Option, Some, None, Bool, true, false, true≢false, if◌then◌else◌, List, [], ◌∷◌, length, get_or}
use Rattle.std.specs.Prelude.{ltb, slice_index, slice_index_or, All}
use Rattle.std.specs.FinSet.{contains}
use Rattle.std.proofs.lemmas.Bool.{cases_lt, ltb-false, ltb-true}
use Rattle.std.proofs.lemmas.List.{get_or-map, get_or_default, length-map}
use Rattle.std.proofs.lemmas.List.FromFn.{length-map-range_with_len}
use Rattle.rh_ledger.specs.declared.tally.Kind.{Kind}
use Rattle.rh_ledger.specs.declared.tally.Kind.TheVariants.{Ask}
use Rattle.rh_ledger.specs.Phase.{looked_up}
use Rattle.rh_turns.specs.declared.hand.Hand.{Hand}
use Rattle.rh_turns.specs.declared.hand.Share.{Share}
use Rattle.rh_turns.specs.declared.hand.Share.TheVariants.{Piece, Claims}
use Rattle.rh_turns.specs.Hands.{IsClaiming, keys_for, share_keys}
use Rattle.rh_turns.specs.Game.{ArePieces, Game, IsDoneAt, Plays, at_hand, done_at, keys_at, positions_at, shares_of}
use Rattle.rh_turns.specs.Laws.{OutcomeSpec}
use Rattle.rh_turns.proofs.Apart.{end_of, first_of, piece_within}
use Rattle.rh_turns.proofs.AtHands.{at_hand_is}
use Rattle.rh_turns.proofs.Ended.{plays_ends}
use Rattle.rh_turns.proofs.Playing.{in_hands, some_hand}
use Rattle.rh_turns.proofs.Telling.{done_are, done_or_not, first_are_done, others_are_not, plays_tells}
use Rattle.rh_interleaving.specs.Made.{AnswersAll, IsAnswer, held_first, is_asked, is_claimed, is_shared, recorded_at, recorded_in, recorded_of}
use Rattle.rh_interleaving.proofs.Dealing.{part_at}

-- ---- what was recorded

pub beyond_all : {A : Type 0} (f : Hand → A) (default : A) (hs : List Hand) (v : ℕ) → length hs ≤ v → at_hand f default hs v ≡ default
beyond_all f default [] v high = refl
beyond_all f default (h ∷ hs) zero high = absurd (omega (arith, high))
beyond_all f default (h ∷ hs) (suc v) high = beyond_all f default hs v (omega (arith, high))

pub none_of_nobody : (g : Game) (worker position : ℕ) → length g.hands ≤ worker → None ≡ recorded_of g worker position
none_of_nobody g worker position high = sym (beyond_all (λ h. recorded_in g h.share position) None g.hands worker high)

within_piece : (g : Game) (first end position : ℕ) → first + position < end → recorded_at g (first + position) ≡ recorded_in g (Piece first end) position
within_piece g first end position less = go (ltb (first + position) end) refl
  where
    go : (b : Bool) → ltb (first + position) end ≡ b → recorded_at g (first + position) ≡ (if b then recorded_at g (first + position) else None)
    go true is = refl
    go false is = let high : end ≤ first + position = ltb-false (first + position) end is in absurd (omega (arith, high, less))

past_piece : (g : Game) (first end position : ℕ) → end ≤ first + position → None ≡ recorded_in g (Piece first end) position
past_piece g first end position high = go (ltb (first + position) end) refl
  where
    go : (b : Bool) → ltb (first + position) end ≡ b → None ≡ (if b then recorded_at g (first + position) else None)
    go true is = let less : first + position < end = ltb-true (first + position) end is in absurd (omega (arith, high, less))
    go false is = refl

module _ (g : Game) (worker position : ℕ) (h : Hand) (inside : worker < length g.hands) (h_is : h ≡ get_or g.hands worker h) where
  recorded_by_hand : recorded_in g h.share position ≡ recorded_of g worker position
  recorded_by_hand = ap (λ (x : Hand). recorded_in g x.share position) h_is ∙ sym (at_hand_is (λ h. recorded_in g h.share position) None g.hands worker h inside)

  by_share : (share : Share) → h.share ≡ share → recorded_in g share position ≡ recorded_of g worker position
  by_share share is = ap (λ (s : Share). recorded_in g s position) (sym is) ∙ recorded_by_hand

  pub recorded_in_piece : (first end : ℕ) → h.share ≡ Piece first end → position < end - first → recorded_at g (first + position) ≡ recorded_of g worker position
  recorded_in_piece first end is less = within_piece g first end position (omega (arith, less)) ∙ by_share (Piece first end) is

  pub none_past_piece : (first end : ℕ) → h.share ≡ Piece first end → end - first ≤ position → None ≡ recorded_of g worker position
  none_past_piece first end is high = past_piece g first end position (omega (arith, high)) ∙ by_share (Piece first end) is

  pub none_where_shared : (last : ℕ) (ended : Bool) → h.share ≡ Claims last ended → None ≡ recorded_of g worker position
  none_where_shared last ended is = by_share (Claims last ended) is

module _ (g : Game) (plays : Plays g) where
  not_claimed : is_shared g ≡ false → All IsClaiming g.hands → ⊥
  not_claimed not_shared all =
      let some : 0 < length g.hands = in_hands g plays 0 g.shape.some_worker in
      let h : Hand = some_hand g plays in
      let claims = all 0 h some in
      true≢false (sym (ap is_claimed claims.2) ∙ sym (at_hand_is (λ h. is_claimed h.share) false g.hands 0 h some) ∙ not_shared)

asked : (g : Game) (position : ℕ) → g.kind ≡ Ask → recorded_at g position ≡ slice_index_or g.answers position None
asked g position asks = ap (λ (k : Kind). if is_asked k then slice_index_or g.answers position None else None) asks

-- ---- at each moment

module _ (g : Game) (plays : Plays g) (asks : g.kind ≡ Ask) where
  pub answer_list : (position : ℕ) (answer : Option Bool) → answer ≡ recorded_at g position → IsAnswer (held_first g) (slice_index g.keys position) (IsDoneAt g position) answer
  answer_list position answer is = ⊎_elim
      (λ (done : IsDoneAt g position). subst (IsAnswer (held_first g) (slice_index g.keys position) (IsDoneAt g position)) (sym (is ∙ asked g position asks ∙ tells.answers asks position done)) (done, refl))
      (λ (not : IsDoneAt g position → ⊥). subst (IsAnswer (held_first g) (slice_index g.keys position) (IsDoneAt g position)) (sym (is ∙ asked g position asks ∙ tells.unanswered position not)) not)
      (done_or_not g position)
    where
      tells : OutcomeSpec g plays.own_answers
      tells = plays_tells g plays

  module _ (worker position : ℕ) (answer : Option Bool) (is : answer ≡ recorded_of g worker position) (inside : worker < length g.hands) (are : ArePieces 0 (shares_of g.hands) (length g.keys)) where
    abbrev h : Hand
    h = get_or g.hands worker (some_hand g plays)

    mine : worker < g.shape.workers
    mine = omega (arith, inside, plays.workers)

    piece : (first end : ℕ) × (h.share ≡ Piece first end) × (first ≤ end) × (end ≤ length g.keys)
    piece = piece_within 0 g.hands (length g.keys) are worker (some_hand g plays) inside

    count : length (done_at g worker) ≡ length (positions_at g worker)
    count = ap length (done_are g plays worker mine) ∙ length-map (positions_at g worker) (slice_index g.keys)

    first_is : first_of h.share ≡ piece.0
    first_is = ap first_of piece.2

    end_is : end_of h.share ≡ piece.1
    end_is = ap end_of piece.2

    abbrev p : ℕ
    p = first_of h.share + position

    -- within the piece the answer stands at its position of the list
    recorded_there : p < end_of h.share → answer ≡ slice_index_or g.answers p None
    recorded_there within =
        let less : position < piece.1 - piece.0 = omega (arith, within, first_is, end_is) in
        let at : piece.0 + position ≡ p = omega (arith, first_is) in
        is ∙ sym (recorded_in_piece g worker position h inside (get_or_default g.hands worker (some_hand g plays) h inside) piece.0 piece.1 piece.2 less)
        ∙ asked g (piece.0 + position) asks ∙ ap (λ (q : ℕ). slice_index_or g.answers q None) at

    key_there : p < end_of h.share → slice_index g.keys p ≡ slice_index (keys_at g worker) position
    key_there within =
        let less : position < piece.1 - piece.0 = omega (arith, within, first_is, end_is) in
        let at : p ≡ piece.0 + position = omega (arith, first_is) in
        ap (slice_index g.keys) at ∙ sym (part_at g.keys piece.0 piece.1 position less)
        ∙ ap (λ (ks : List ℕ). slice_index ks position) (sym (at_hand_is (keys_for g.keys) [] g.hands worker (some_hand g plays) inside ∙ ap (share_keys g.keys) piece.2))

    none_recorded : length (positions_at g worker) ≤ position → answer ≡ None
    none_recorded high = ⊎_elim
        (λ (within : p < end_of h.share). recorded_there within ∙ (plays_tells g plays).unanswered p (others_are_not g plays are worker position mine within high))
        (λ (past : end_of h.share ≤ p).
        is ∙ sym (none_past_piece g worker position h inside (get_or_default g.hands worker (some_hand g plays) h inside) piece.0 piece.1 piece.2 (omega (arith, past, first_is, end_is))))
        (cases_lt p (end_of h.share))

    in_pieces : IsAnswer (held_first g) (slice_index (keys_at g worker) position) (position < length (done_at g worker)) answer
    in_pieces = ⊎_elim
        (λ (less : position < length (done_at g worker)).
        let done = first_are_done g plays are worker position mine (omega (arith, less, count)) in
        subst (IsAnswer (held_first g) (slice_index (keys_at g worker) position) (position < length (done_at g worker)))
        (sym (recorded_there done.1 ∙ (plays_tells g plays).answers asks p done.0 ∙ ap (λ (k : ℕ). Some (contains (held_first g) k)) (key_there done.1))) (less, refl))
        (λ (high : length (done_at g worker) ≤ position).
        subst (IsAnswer (held_first g) (slice_index (keys_at g worker) position) (position < length (done_at g worker)))
        (sym (none_recorded (omega (arith, high, count)))) (λ (less : position < length (done_at g worker)). omega (arith, less, high)))
        (cases_lt position (length (done_at g worker)))

  pub answer_piece : (worker position : ℕ) (answer : Option Bool) → answer ≡ recorded_of g worker position → is_shared g ≡ false → worker < length g.hands
      → IsAnswer (held_first g) (slice_index (keys_at g worker) position) (position < length (done_at g worker)) answer
  answer_piece worker position answer is not_shared inside = ⊎_elim (λ (are : ArePieces 0 (shares_of g.hands) (length g.keys)). in_pieces worker position answer is inside are)
      (λ (all : All IsClaiming g.hands). absurd (not_claimed g plays not_shared all)) plays.dealt

-- ---- at the end

module _ (g : Game) (plays : Plays g) where
  pub answers_list : (position : ℕ) (answer : Option Bool) → answer ≡ recorded_at g position → AnswersAll g g.keys position answer
  answers_list position answer is finished kind inside = is ∙ asked g position kind ∙ (plays_ends g plays finished).answers kind position inside

  looked_at : (keys : List ℕ) (position : ℕ) → position < length keys → get_or (looked_up (held_first g) keys) position false ≡ contains (held_first g) (slice_index keys position)
  looked_at keys position inside = get_or-map (contains (held_first g)) keys position 0 false inside

  pub answers_piece : (worker position : ℕ) (answer : Option Bool) → answer ≡ recorded_of g worker position → is_shared g ≡ false → worker < length g.hands → AnswersAll g (keys_at g worker) position answer
  answers_piece worker position answer is not_shared inside finished kind low = ⊎_elim by_piece (λ (all : All IsClaiming g.hands). absurd (not_claimed g plays not_shared all)) plays.dealt
    where
      h : Hand
      h = get_or g.hands worker (some_hand g plays)

      by_piece : ArePieces 0 (shares_of g.hands) (length g.keys) → answer ≡ Some (get_or (looked_up (held_first g) (keys_at g worker)) position false)
      by_piece are =
          let r = piece_within 0 g.hands (length g.keys) are worker (some_hand g plays) inside in
          let first : ℕ = r.0 in
          let end : ℕ = r.1 in
          let keys_are : keys_at g worker ≡ share_keys g.keys (Piece first end) = at_hand_is (keys_for g.keys) [] g.hands worker (some_hand g plays) inside ∙ ap (share_keys g.keys) r.2 in
          let size : length (keys_at g worker) ≡ end - first = ap length keys_are ∙ length-map-range_with_len (slice_index g.keys) first (end - first) in
          let less : position < end - first = omega (arith, low, size) in
          let within : first + position < length g.keys = omega (arith, less, r.3, r.4) in
          let answer_is = recorded_in_piece g worker position h inside (get_or_default g.hands worker (some_hand g plays) h inside) first end r.2 less in
          let same : contains (held_first g) (slice_index g.keys (first + position)) ≡ contains (held_first g) (slice_index (keys_at g worker) position) =
          ap (contains (held_first g)) (sym (part_at g.keys first end position less) ∙ ap (λ (ks : List ℕ). slice_index ks position) (sym keys_are)) in
          is ∙ sym answer_is ∙ asked g (first + position) kind ∙ (plays_ends g plays finished).answers kind (first + position) within
          ∙ ap Some (looked_at g.keys (first + position) within ∙ same ∙ sym (looked_at (keys_at g worker) position low))
