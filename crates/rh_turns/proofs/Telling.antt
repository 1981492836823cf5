-- What is counted and answered of the keys that are done, at each moment.
use Rattle.std.proofs.Common.{◌≡◌, ◌≢◌, ℕ, zero, suc, ◌+◌, ◌<◌, ◌≤◌, ◌⊎◌, inl, inr, ⊎_elim, sym, ap, ◌∙◌, subst, arith, Bool, false, Some, None, List, [], ◌∷◌, length, map, get_or}
use Rattle.std.specs.Prelude.{slice_index, slice_index_or}
use Rattle.std.specs.FinSet.{contains}
use Rattle.std.proofs.lemmas.Bool.{cases_eq, cases_lt}
use Rattle.std.proofs.lemmas.List.{get_or-map, length-map, length-take-le}
use Rattle.std.proofs.lemmas.List.FromFn.{length-range_with_len}
use Rattle.rh_layout.specs.Layout.{Keys, keys_of}
use Rattle.rh_ledger.specs.declared.tally.Kind.TheVariants.{Ask}
use Rattle.rh_ledger.specs.Phase.{looked_up}
use Rattle.rh_words.specs.declared.shape.Shape.{Shape}
use Rattle.rh_acts.proofs.Changing.{as_many_answers}
use Rattle.rh_order.specs.Claimed.{claimed}
use Rattle.rh_order.proofs.Answering.{run_answers}
use Rattle.rh_turns.specs.declared.hand.Hand.{Hand}
use Rattle.rh_turns.specs.declared.hand.Share.{Share}
use Rattle.rh_turns.specs.declared.hand.Share.TheVariants.{Piece, Claims}
use Rattle.rh_turns.specs.Hands.{IsShare, done_keys, positions, positions_of, view_of}
use Rattle.rh_turns.specs.Game.{ArePieces, Game, IsDoneAt, Plays, done_at, positions_at, run_of, shares_of}
use Rattle.rh_turns.specs.Laws.{OutcomeSpec}
use Rattle.rh_turns.proofs.Apart.{end_of, first_of, in_one_piece, in_piece, piece_at}
use Rattle.rh_turns.proofs.AtHands.{at_hand_is}
use Rattle.rh_turns.proofs.Playing.{done_claimed, hand_of, in_hands, some_hand}

-- a worker has as many positions of done keys as it counts
pub positions_counted : (z : Shape) (keys : List ℕ) (h : Hand) (s : Share) → IsShare z keys h s → length (positions_of z s (view_of h) h.done) ≡ h.done
positions_counted z keys h (Piece first end) o = length-range_with_len first h.done
positions_counted z keys h (Claims last ended) o = length-take-le h.done (claimed z (view_of h)) (done_claimed z h last ended o.1)

module _ (g : Game) (plays : Plays g) where
  abbrev z : Shape
  z = g.shape

  abbrev S : Keys
  S = keys_of g.opening

  pub done_are : (v : ℕ) → v < z.workers → done_at g v ≡ map (slice_index g.keys) (positions_at g v)
  done_are v mine =
      let d : Hand = some_hand g plays in
      at_hand_is (done_keys z g.keys) [] g.hands v d (in_hands g plays v mine)
      ∙ ap (map (slice_index g.keys)) (sym (at_hand_is (positions z) [] g.hands v d (in_hands g plays v mine)))

  pub answers_size : (v : ℕ) → v < z.workers → length (plays.own_answers v) ≡ length (positions_at g v)
  answers_size v mine = as_many_answers g.kind z.bits _ (done_at g v) _ (plays.own_answers v) (plays.running.doing v mine).so_far ∙ ap length (done_are v mine) ∙ length-map (positions_at g v) (slice_index g.keys)

  done_counted : (v : ℕ) (d : Hand) → v < z.workers → length (positions_at g v) ≡ (get_or g.hands v d).done
  done_counted v d mine =
      let h : Hand = get_or g.hands v d in
      ap length (at_hand_is (positions z) [] g.hands v d (in_hands g plays v mine)) ∙ positions_counted z g.keys h h.share (hand_of g plays v mine d).share

  -- the answer of a key that was asked for
  answer_is : g.kind ≡ Ask → (v j : ℕ) → v < z.workers → j < length (positions_at g v)
      → slice_index_or g.answers (slice_index (positions_at g v) j) None ≡ Some (contains S (slice_index g.keys (slice_index (positions_at g v) j)))
  answer_is asks v j mine inside =
      let size : length (plays.own_answers v) ≡ length (positions_at g v) = answers_size v mine in
      let positions : List ℕ = positions_at g v in
      let long : length (map (slice_index g.keys) positions) ≡ length positions = length-map positions (slice_index g.keys) in
      let answers = run_answers (run_of g plays.own_answers) S plays.running plays.opening asks v mine ∙ ap (looked_up S) (done_are v mine) in
      plays.answered v j mine (omega (arith, inside, size))
      ∙ ap Some (
      ap (λ (l : List Bool). slice_index_or l j false) answers
      ∙ get_or-map (contains S) (map (slice_index g.keys) positions) j 0 false (omega (arith, inside, long))
      ∙ ap (contains S) (get_or-map (slice_index g.keys) positions j 0 0 inside)
      )

  answer_at_position : g.kind ≡ Ask → (p : ℕ) → IsDoneAt g p → slice_index_or g.answers p None ≡ Some (contains S (slice_index g.keys p))
  answer_at_position asks p done =
      subst (λ (q : ℕ). slice_index_or g.answers q None ≡ Some (contains S (slice_index g.keys q))) done.4 (answer_is asks done.0 done.1 done.2 done.3)

  pub plays_tells : OutcomeSpec g plays.own_answers
  plays_tells = record { counts = done_counted; changed = plays.changed; stands = plays.answered; answers = answer_at_position; unanswered = plays.unanswered }

-- ---- whether a key is done

find_in : (xs : List ℕ) (p : ℕ) → ((j : ℕ) × (j < length xs) × (slice_index xs j ≡ p)) ⊎ ((j : ℕ) → j < length xs → slice_index xs j ≢ p)
find_in [] p = inr (λ j l e. absurd (omega (arith, l)))
find_in (x ∷ xs) p = ⊎_elim (λ (e : x ≡ p). inl (0, omega arith, e)) (λ (ne : x ≢ p). ⊎_elim
    (λ r. inl (suc r.0, omega (arith, r.1), r.2))
    (λ (none : (j : ℕ) → j < length xs → slice_index xs j ≢ p). inr (λ j l. later ne none j l)) (find_in xs p)) (cases_eq x p)
  where
    later : x ≢ p → ((j : ℕ) → j < length xs → slice_index xs j ≢ p) → (j : ℕ) → j < length (x ∷ xs) → slice_index (x ∷ xs) j ≢ p
    later ne none zero l = ne
    later ne none (suc j) l = none j (omega (arith, l))

abbrev IsIn : (at : ℕ → List ℕ) (n p : ℕ) → Type 0
IsIn at n p = (v j : ℕ) × (v < n) × (j < length (at v)) × (slice_index (at v) j ≡ p)

find_among : (at : ℕ → List ℕ) (n p : ℕ) → IsIn at n p ⊎ (IsIn at n p → ⊥)
find_among at zero p = inr (λ r. absurd (omega (arith, r.2)))
find_among at (suc n) p = ⊎_elim (λ (r : IsIn at n p). inl (r.0, r.1, omega (arith, r.2), r.3, r.4)) (λ (before : IsIn at n p → ⊥). ⊎_elim
    (λ r. inl (n, r.0, omega arith, r.1, r.2))
    (λ (none : (j : ℕ) → j < length (at n) → slice_index (at n) j ≢ p). inr (λ r. ⊎_elim
    (λ (e : r.0 ≡ n). none r.1 (subst (λ (v : ℕ). r.1 < length (at v)) e r.3) (ap (λ (v : ℕ). slice_index (at v) r.1) (sym e) ∙ r.4))
    (λ (ne : r.0 ≢ n). before (r.0, r.1, earlier r.0 r.2 ne, r.3, r.4)) (cases_eq r.0 n))) (find_in (at n) p)) (find_among at n p)
  where
    earlier : (v : ℕ) → v < suc n → v ≢ n → v < n
    earlier v l ne = ⊎_elim (λ (less : v < n). less) (λ (most : n ≤ v). absurd (ne (omega (arith, l, most)))) (cases_lt v n)

pub done_or_not : (g : Game) (p : ℕ) → IsDoneAt g p ⊎ (IsDoneAt g p → ⊥)
done_or_not g p = find_among (positions_at g) g.shape.workers p

-- ---- in a piece the first keys are done

module _ (g : Game) (plays : Plays g) (are : ArePieces 0 (shares_of g.hands) (length g.keys)) where
  abbrev hand : (v : ℕ) → Hand
  hand v = get_or g.hands v (some_hand g plays)

  of_position : (v j : ℕ) → v < g.shape.workers → j < length (positions_at g v) → (slice_index (positions_at g v) j ≡ first_of (hand v).share + j) × (first_of (hand v).share + j < end_of (hand v).share)
  of_position v j mine inside =
      let d : Hand = some_hand g plays in
      let at : positions_at g v ≡ positions g.shape (hand v) = at_hand_is (positions g.shape) [] g.hands v d (in_hands g plays v mine) in
      let r = in_piece g.shape g.keys (hand v) (hand v).share j (piece_at 0 g.hands (length g.keys) are v d (in_hands g plays v mine)).0 (hand_of g plays v mine d).share (subst (λ (l : List ℕ). j < length l) at inside) in
      (ap (λ (l : List ℕ). slice_index l j) at ∙ r.0, r.1)

  module _ (worker k : ℕ) (mine : worker < g.shape.workers) where
    pub first_are_done : k < length (positions_at g worker) → IsDoneAt g (first_of (hand worker).share + k) × (first_of (hand worker).share + k < end_of (hand worker).share)
    first_are_done inside = let r = of_position worker k mine inside in ((worker, k, mine, inside, r.0), r.1)

    pub others_are_not : first_of (hand worker).share + k < end_of (hand worker).share → length (positions_at g worker) ≤ k → IsDoneAt g (first_of (hand worker).share + k) → ⊥
    others_are_not within high done =
        let p : ℕ = first_of (hand worker).share + k in
        let v : ℕ = done.0 in
        let r = of_position v done.1 done.2 done.3 in
        let is : slice_index (positions_at g v) done.1 ≡ first_of (hand v).share + done.1 = r.0 in
        let at : slice_index (positions_at g v) done.1 ≡ p = done.4 in
        let same : v ≡ worker = in_one_piece g.hands (length g.keys) are v worker (some_hand g plays) (in_hands g plays v done.2) (in_hands g plays worker mine) p
        (omega (arith, is, at), omega (arith, is, at, r.1)) (omega arith, within) in
        let first : first_of (hand v).share ≡ first_of (hand worker).share = ap (λ (u : ℕ). first_of (hand u).share) same in
        let low : done.1 < length (positions_at g worker) = subst (λ (u : ℕ). done.1 < length (positions_at g u)) same done.3 in
        omega (arith, is, at, first, low, high)
