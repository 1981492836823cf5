-- A turn of a worker keeps what is so of the game.
use Rattle.std.proofs.Common.{◌≡◌, ◌≢◌, ℕ, ◌+◌, ◌<◌, ◌≤◌, ◌⊎◌, inl, inr, ⊎_elim, sym, refl, ap, ◌∙◌, subst, arith, Bool, true, false, cond, Option, Some, None, List, [], ◌∷◌, ◌++◌, length, map, filter, reverse, set, take, get_or, length-append}
use mathlib.Core.List.{reverse-cons}
use Rattle.std.specs.Prelude.{nat_lt, slice_index, slice_index_or, count_by, All}
use Rattle.std.specs.List.{Contains, range_with_len}
use Rattle.std.proofs.lemmas.Bool.{cases_eq, cases_lt}
use Rattle.std.proofs.lemmas.List.{append-nil, get_or-set_other, get_or-set_same, get_or_append_left, get_or_push, length-set, length_push, map-id, map_push, set-get_or, take-append-le, take_all}
use Rattle.std.proofs.lemmas.List.Elements.{All-set}
use Rattle.std.proofs.lemmas.List.FromFn.{map-range_with_len_more}
use Rattle.std.proofs.lemmas.List.Sums.{sum_by_push}
use Rattle.rh_ledger.specs.declared.tally.Kind.{Kind}
use Rattle.rh_world.specs.World.{updated}
use Rattle.rh_world.proofs.Updated.{updated_at, updated_else, updated_here}
use Rattle.rh_words.specs.declared.shape.Shape.{Shape}
use Rattle.rh_words.specs.declared.steps.StepKind.{StepKind}
use Rattle.rh_words.specs.View.{View, new_view}
use Rattle.rh_words.specs.Steps.{Allowed, Step, StepsTo}
use Rattle.rh_order.specs.Advance.{Advances}
use Rattle.rh_order.specs.Claimed.{claimed}
use Rattle.rh_order.specs.Laws.{AreAlike, also_done_by, stepped}
use Rattle.rh_order.specs.Run.{Run, RunInvariant, also_done, also_answered}
use Rattle.rh_order.proofs.Alike.{runs_alike}
use Rattle.rh_order.proofs.Stepping.{run_claims, run_steps}
use Rattle.rh_turns.specs.declared.hand.Hand.{Hand}
use Rattle.rh_turns.specs.declared.hand.Share.{Share}
use Rattle.rh_turns.specs.declared.hand.Share.TheVariants.{Piece, Claims}
use Rattle.rh_turns.specs.declared.turning.Turn.{Turn}
use Rattle.rh_turns.specs.declared.turning.Turn.TheVariants.{Did, Finished, Spent, NoSuchWorker}
use Rattle.rh_turns.specs.Hands.{ClaimsOn, IsClaiming, IsHand, IsIdle, IsShare, Moment, StepsOn, TurnsOn, answered, HasCounted, done_keys, keys_for, share_keys, moment, position_now, position_of, positions, positions_of, view_of}
use Rattle.rh_turns.specs.Game.{ArePieces, Game, IsDealt, IsDoneAt, Plays, at_hand, changed_at, done_at, keep, keys_at, positions_at, run_of, shares_of}
use Rattle.rh_turns.specs.Laws.{moment_of, turned}
use Rattle.rh_turns.proofs.AtHands.{at_hand_is, at_hand_set}
use Rattle.rh_turns.proofs.Apart.{apart, piece_at, piece_not_claims, pieces_set}
use Rattle.rh_turns.proofs.Playing.{done_claimed, hand_of, in_hands, kept_at, next_among}
use Rattle.rh_turns.proofs.Telling.{answers_size}

-- ---- the positions of its done keys

-- one position more, where the key there is done
abbrev also_at : List ℕ → (position : ℕ) → Option Bool → List ℕ
also_at l position None = l
also_at l position (Some so) = l ++ position ∷ []

-- of the first of the claimed positions none changes where one more is claimed
first_stay : (z : Shape) (v next : View) (n : ℕ) → next.side.claims ≡ n ∷ v.side.claims → (m : ℕ) → m ≤ length (claimed z v) → take m (claimed z next) ≡ take m (claimed z v)
first_stay z v next n more m most = ap (λ (l : List ℕ). take m (reverse (filter (λ i. nat_lt i z.keys) l))) more ∙ go (nat_lt n z.keys)
  where
    go : (b : Bool) → take m (reverse (cond b (n ∷ filter (λ i. nat_lt i z.keys) v.side.claims) (filter (λ i. nat_lt i z.keys) v.side.claims))) ≡ take m (claimed z v)
    go true = ap (λ (l : List ℕ). take m l) (reverse-cons n (filter (λ i. nat_lt i z.keys) v.side.claims)) ∙ take-append-le m (claimed z v) (n ∷ []) most
    go false = refl

range_more : (first n : ℕ) → range_with_len first (n + 1) ≡ range_with_len first n ++ (first + n) ∷ []
range_more first n =
    sym (map-id (range_with_len first (n + 1))) ∙ map-range_with_len_more (λ (i : ℕ). i) first n (first + n) refl ∙ ap (λ (l : List ℕ). l ++ (first + n) ∷ []) (map-id (range_with_len first n))

-- they go by what was claimed
pub same_claims : (z : Shape) (v next : View) (s : Share) (done : ℕ) → next.side.claims ≡ v.side.claims → positions_of z s next done ≡ positions_of z s v done
same_claims z v next (Piece first end) done same = refl
same_claims z v next (Claims last ended) done same = ap (λ (l : List ℕ). take done (reverse (filter (λ i. nat_lt i z.keys) l))) same

module _ (z : Shape) (keys : List ℕ) (h next : Hand) (claims : (view_of next).side.claims ≡ (view_of h).side.claims) where
  claimed_same : claimed z (view_of next) ≡ claimed z (view_of h)
  claimed_same = ap (λ (l : List ℕ). reverse (filter (λ i. nat_lt i z.keys) l)) claims

  -- a worker that claims its keys is at the last that it claimed
  last_done : (last : ℕ) (ended : Bool) → h.share ≡ Claims last ended → IsShare z keys h (Claims last ended) → IsShare z keys next (Claims last ended) → next.done ≡ h.done + 1
      → take (h.done + 1) (claimed z (view_of h)) ≡ take h.done (claimed z (view_of h)) ++ last ∷ []
  last_done last ended is was now done =
      let more : next.done ≤ length (claimed z (view_of next)) = done_claimed z next last ended now.1 in
      let size : length (claimed z (view_of next)) ≡ length (claimed z (view_of h)) = ap length claimed_same in
      ⊎_elim
      (λ (idle : IsIdle h). let few : length (claimed z (view_of h)) ≡ h.done = was.1.idle idle in absurd (omega (arith, more, size, few, done)))
      (λ b.
      let here : positions z h ≡ take h.done (claimed z (view_of h)) = ap (λ (s : Share). positions_of z s (view_of h) h.done) is in
      let long : length (claimed z (view_of h)) ≡ h.done + 1 = ap length b.0 ∙ length_push (positions z h) last ∙ ap (λ (n : ℕ). n + 1) b.1 in
      take_all (h.done + 1) (claimed z (view_of h)) (omega (arith, long)) ∙ b.0 ∙ ap (λ (l : List ℕ). l ++ last ∷ []) here) was.1.busy

  one_done : (s : Share) → h.share ≡ s → IsShare z keys h s → IsShare z keys next s → next.done ≡ h.done + 1
      → positions_of z s (view_of h) (h.done + 1) ≡ positions_of z s (view_of h) h.done ++ position_of s h.done ∷ []
  one_done (Piece first end) is was now done = range_more first h.done
  one_done (Claims last ended) is was now done = last_done last ended is was now done

  positions_then : (answer : Option Bool) → next.share ≡ h.share → IsShare z keys h h.share → IsShare z keys next next.share → HasCounted h answer next
      → positions z next ≡ also_at (positions z h) (position_now h) answer
  positions_then answer share was now counts =
      ap (λ (s : Share). positions_of z s (view_of next) next.done) share ∙ same_claims z (view_of h) (view_of next) h.share next.done claims ∙ go answer counts
    where
      go : (answer : Option Bool) → HasCounted h answer next → positions_of z h.share (view_of h) next.done ≡ also_at (positions z h) (position_now h) answer
      go None counts = ap (positions_of z h.share (view_of h)) counts.0
      go (Some so) counts = ap (positions_of z h.share (view_of h)) counts.0 ∙ one_done h.share refl was (subst (IsShare z keys next) share now) counts.0

keys_then : (z : Shape) (keys : List ℕ) (h next : Hand) (answer : Option Bool) → positions z next ≡ also_at (positions z h) (position_now h) answer
    → also_done (done_keys z keys h) (slice_index keys (position_now h)) answer ≡ done_keys z keys next
keys_then z keys h next answer is = go answer ∙ sym (ap (map (slice_index keys)) is)
  where
    go : (answer : Option Bool) → also_done (done_keys z keys h) (slice_index keys (position_now h)) answer ≡ map (slice_index keys) (also_at (positions z h) (position_now h) answer)
    go None = refl
    go (Some so) = sym (map_push (slice_index keys) (positions z h) (position_now h))

-- ---- its answers

how_many_more : (own_answers : List Bool) (so : Bool) → count_by (λ so. so) (own_answers ++ so ∷ []) ≡ count_by (λ so. so) own_answers + cond so 1 0
how_many_more own_answers so = sum_by_push (λ (so : Bool). cond so 1 0) own_answers so

counts_then : (h next : Hand) (own_answers : List Bool) (answer : Option Bool) → HasCounted h answer next → h.changed ≡ count_by (λ so. so) own_answers → next.changed ≡ count_by (λ so. so) (also_answered own_answers answer)
counts_then h next own_answers None counts was = counts.1 ∙ was
counts_then h next own_answers (Some so) counts was = counts.1 ∙ ap (λ (n : ℕ). n + cond so 1 0) was ∙ sym (how_many_more own_answers so)

-- ---- the answers

-- at the position of the j-th done key stands its answer
abbrev Stands : List (Option Bool) → (at : List ℕ) (own_answers : List Bool) (j : ℕ) → Type 0
Stands answers at own_answers j = slice_index_or answers (slice_index at j) None ≡ Some (slice_index_or own_answers j false)

stands_so : (answers : List (Option Bool)) (l m : List ℕ) (t u : List Bool) (j : ℕ) → l ≡ m → t ≡ u → (j < length u → Stands answers m u j) → j < length t → Stands answers l t j
stands_so answers l m t u j positions own_answers so inside =
    (λ i. slice_index_or answers (slice_index (positions i) j) None) ∙ so (subst (λ (x : List Bool). j < length x) own_answers inside) ∙ sym (λ i. Some (slice_index_or (own_answers i) j false))

stands_still : (answers : List (Option Bool)) (at : List ℕ) (own_answers : List Bool) (position : ℕ) (so : Option Bool) (j : ℕ) → slice_index at j ≢ position → Stands answers at own_answers j → Stands (set answers position so) at own_answers j
stands_still answers at own_answers position so j other was = get_or-set_other answers position (slice_index at j) so None other ∙ was

stands_more : (answers : List (Option Bool)) (at : List ℕ) (own_answers : List Bool) (position : ℕ) (so : Bool) (j : ℕ) → length own_answers ≡ length at → position < length answers
    → (j < length own_answers → Stands answers at own_answers j) → (j < length own_answers → slice_index at j ≢ position) → j < length (own_answers ++ so ∷ [])
    → Stands (set answers position (Some so)) (at ++ position ∷ []) (own_answers ++ so ∷ []) j
stands_more answers at own_answers position so j size within was other inside =
    let long : length (own_answers ++ so ∷ []) ≡ length own_answers + 1 = length_push own_answers so in
    ⊎_elim
    (λ (l : j < length own_answers).
    let m : j < length at = omega (arith, l, size) in
    ap (λ (p : ℕ). slice_index_or (set answers position (Some so)) p None) (get_or_append_left at (position ∷ []) 0 j m)
    ∙ stands_still answers at own_answers position (Some so) j (other l) (was l)
    ∙ ap (λ (b : Bool). Some b) (sym (get_or_append_left own_answers (so ∷ []) false j l)))
    (λ (m : length own_answers ≤ j).
    let e : length own_answers ≡ j = omega (arith, m, inside, long) in
    ap (λ (p : ℕ). slice_index_or (set answers position (Some so)) p None) (get_or_push at position 0 j (sym size ∙ e))
    ∙ get_or-set_same answers position (Some so) None within
    ∙ ap (λ (b : Bool). Some b) (sym (get_or_push own_answers so false j e))) (cases_lt j (length own_answers))

-- ---- the game

dealt_then : (g : Game) (who : ℕ) (d next : Hand) → who < length g.hands → next.share ≡ (get_or g.hands who d).share → IsDealt g
    → ArePieces 0 (shares_of (set g.hands who next)) (length g.keys) ⊎ All IsClaiming (set g.hands who next)
dealt_then g who d next l same dealt = ⊎_elim
    (λ (are : ArePieces 0 (shares_of g.hands) (length g.keys)). inl (pieces_set 0 g.hands (length g.keys) who d next l same are))
    (λ (are : All IsClaiming g.hands). let c = are who d l in inr (All-set IsClaiming g.hands who next (c.0, c.1, same ∙ c.2) are)) dealt

claiming_then : (g : Game) (who : ℕ) (d next : Hand) → who < length g.hands → IsClaiming (get_or g.hands who d) → IsClaiming next → IsDealt g
    → ArePieces 0 (shares_of (set g.hands who next)) (length g.keys) ⊎ All IsClaiming (set g.hands who next)
claiming_then g who d next l was is dealt = ⊎_elim
    (λ (are : ArePieces 0 (shares_of g.hands) (length g.keys)). absurd (piece_not_claims (get_or g.hands who d).share (piece_at 0 g.hands (length g.keys) are who d l).0 was.0 was.1 was.2))
    (λ (are : All IsClaiming g.hands). inr (All-set IsClaiming g.hands who next is are)) dealt

pub same_as_was : {A : Type 0} (f : ℕ → A) (k : ℕ) (a : A) → f k ≡ a → (v : ℕ) → f v ≡ updated f k a v
same_as_was f k a is v = ⊎_elim (λ r. ap f r.0 ∙ is ∙ sym r.1) (λ r. sym r.1) (updated_at f k v a)

module _ (g : Game) (plays : Plays g) (who : ℕ) (mine : who < g.shape.workers) (d next : Hand) (then : List ℕ) (answers : List (Option Bool)) where
  abbrev z : Shape
  z = g.shape

  abbrev h : Hand
  h = get_or g.hands who d

  abbrev game : Game
  game = turned g who (moment then answers next)

  is : who < length g.hands
  is = in_hands g plays who mine

  at_who : {A : Type 0} (f : Hand → A) (default : A) → at_hand f default g.hands who ≡ f h
  at_who f default = at_hand_is f default g.hands who d is

  at_then : {A : Type 0} (f : Hand → A) (default : A) (v : ℕ) → updated (at_hand f default g.hands) who (f next) v ≡ at_hand f default (set g.hands who next) v
  at_then f default v = sym (at_hand_set f default g.hands who next is v)

  abbrev Fits : Option Bool → Type 0
  Fits None = Unit {0}
  Fits (Some so) = position_now h < length g.keys

  -- what the positions of the game after the turn say of the position that is written
  abbrev IsFresh : Option Bool → Type 0
  IsFresh None = Unit {0}
  IsFresh (Some so) = (v j : ℕ) → v < z.workers → j < length (positions_at game v) → get_or (positions_at game v) j 0 ≡ position_now h → (who ≡ v) × (length (positions z h) ≡ j)

  positions_here : (v : ℕ) → v ≡ who → positions_at game v ≡ positions z next
  positions_here v e = sym (at_then (positions z) [] v) ∙ updated_here (positions_at g) who v (positions z next) e

  positions_else : (v : ℕ) → v ≢ who → positions_at game v ≡ positions_at g v
  positions_else v ne = sym (at_then (positions z) [] v) ∙ updated_else (positions_at g) who v (positions z next) ne

  stand_then : (answer : Option Bool) → Fits answer → IsFresh answer → positions z next ≡ also_at (positions z h) (position_now h) answer → answers ≡ answered g.answers (position_now h) answer
      → (v j : ℕ) → v < z.workers → j < length (updated plays.own_answers who (also_answered (plays.own_answers who) answer) v)
      → Stands answers (positions_at game v) (updated plays.own_answers who (also_answered (plays.own_answers who) answer) v) j
  stand_then None fits fresh positions_are is_now v j l inside =
      let same : positions_at game v ≡ positions_at g v = sym (at_then (positions z) [] v) ∙ sym (same_as_was (positions_at g) who (positions z next) (at_who (positions z) [] ∙ sym positions_are) v) in
      subst (λ (a : List (Option Bool)). Stands a (positions_at game v) (updated plays.own_answers who (plays.own_answers who) v) j) (sym is_now)
      (stands_so g.answers (positions_at game v) (positions_at g v) (updated plays.own_answers who (plays.own_answers who) v) (plays.own_answers v) j same (sym (same_as_was plays.own_answers who (plays.own_answers who) refl v)) (plays.answered v j l) inside)
  stand_then (Some so) fits fresh positions_are is_now v j l inside =
      let p : ℕ = position_now h in
      let within : p < length g.answers = omega (arith, fits, plays.answers) in
      let mine_at : positions_at g who ≡ positions z h = at_who (positions z) [] in
      let more : List Bool = plays.own_answers who ++ so ∷ [] in
      subst (λ (a : List (Option Bool)). Stands a (positions_at game v) (updated plays.own_answers who (plays.own_answers who ++ so ∷ []) v) j) (sym is_now)
      (⊎_elim
      (λ (e : v ≡ who).
      let here : positions_at game v ≡ positions_at g who ++ p ∷ [] = positions_here v e ∙ positions_are ∙ ap (λ (l : List ℕ). l ++ p ∷ []) (sym mine_at) in
      let size : length (plays.own_answers who) ≡ length (positions_at g who) = answers_size g plays who mine in
      let long : length (positions_at game v) ≡ length (positions_at g who) + 1 = ap length here ∙ length_push (positions_at g who) p in
      stands_so (set g.answers p (Some so)) (positions_at game v) (positions_at g who ++ p ∷ []) (updated plays.own_answers who (plays.own_answers who ++ so ∷ []) v) (plays.own_answers who ++ so ∷ []) j here (updated_here plays.own_answers who v (plays.own_answers who ++ so ∷ []) e)
      (stands_more g.answers (positions_at g who) (plays.own_answers who) p so j size within (plays.answered who j mine)
      (λ (m : j < length (plays.own_answers who)) (same : slice_index (positions_at g who) j ≡ p).
      let last = (fresh v j l (omega (arith, m, size, long)) (ap (λ (l : List ℕ). get_or l j 0) here ∙ get_or_append_left (positions_at g who) (p ∷ []) 0 j (omega (arith, m, size)) ∙ same)).1 in
      let at_size : length (positions_at g who) ≡ length (positions z h) = ap length mine_at in
      absurd (omega (arith, last, m, size, at_size))))
      inside)
      (λ (ne : v ≢ who).
      stands_so (set g.answers p (Some so)) (positions_at game v) (positions_at g v) (updated plays.own_answers who (plays.own_answers who ++ so ∷ []) v) (plays.own_answers v) j (positions_else v ne) (updated_else plays.own_answers who v (plays.own_answers who ++ so ∷ []) ne)
      (λ (m : j < length (plays.own_answers v)).
      let size : length (plays.own_answers v) ≡ length (positions_at g v) = answers_size g plays v l in
      stands_still g.answers (positions_at g v) (plays.own_answers v) p (Some so) j
      (λ (same : slice_index (positions_at g v) j ≡ p).
      let long : length (positions_at game v) ≡ length (positions_at g v) = ap length (positions_else v ne) in
      ne (sym (fresh v j l (omega (arith, m, size, long)) (ap (λ (l : List ℕ). get_or l j 0) (positions_else v ne) ∙ same)).0))
      (plays.answered v j l m))
      inside)
      (cases_eq v who))

  -- what is done stays so
  done_then : (l : List ℕ) → positions z next ≡ positions z h ++ l → (p : ℕ) → IsDoneAt g p → IsDoneAt game p
  done_then l positions_are p done =
      let v : ℕ = done.0 in
      let j : ℕ = done.1 in
      ⊎_elim
      (λ (me : v ≡ who).
      let mine_at : positions_at g v ≡ positions z h = ap (positions_at g) me ∙ at_who (positions z) [] in
      let now : positions_at game v ≡ positions z h ++ l = positions_here v me ∙ positions_are in
      let less : j < length (positions z h) = subst (λ (at : List ℕ). j < length at) mine_at done.3 in
      let long : length (positions_at game v) ≡ length (positions z h) + length l = ap length now ∙ length-append (positions z h) l in
      (v, j, done.2, omega (arith, less, long), ap (λ (at : List ℕ). get_or at j 0) now ∙ get_or_append_left (positions z h) l 0 j less ∙ ap (λ (at : List ℕ). get_or at j 0) (sym mine_at) ∙ done.4))
      (λ (ne : v ≢ who).
      let same : positions_at game v ≡ positions_at g v = positions_else v ne in
      (v, j, done.2, subst (λ (at : List ℕ). j < length at) (sym same) done.3, ap (λ (at : List ℕ). get_or at j 0) same ∙ done.4))
      (cases_eq v who)

  -- a key that is not done has no answer
  open_then : (answer : Option Bool) → positions z next ≡ also_at (positions z h) (position_now h) answer → answers ≡ answered g.answers (position_now h) answer
      → (p : ℕ) → (IsDoneAt game p → ⊥) → slice_index_or answers p None ≡ None
  open_then None positions_are is_now p undone =
      ap (λ (a : List (Option Bool)). slice_index_or a p None) is_now ∙ plays.unanswered p (λ done. undone (done_then [] (positions_are ∙ sym (append-nil (positions z h))) p done))
  open_then (Some so) positions_are is_now p undone =
      let at : ℕ = position_now h in
      let n : ℕ = length (positions z h) in
      let now : positions_at game who ≡ positions z h ++ at ∷ [] = positions_here who refl ∙ positions_are in
      let long : length (positions_at game who) ≡ n + 1 = ap length now ∙ length_push (positions z h) at in
      let last : slice_index (positions_at game who) n ≡ at = ap (λ (l : List ℕ). get_or l n 0) now ∙ get_or_push (positions z h) at 0 n refl in
      ap (λ (a : List (Option Bool)). slice_index_or a p None) is_now
      ∙ get_or-set_other g.answers at p (Some so) None (λ (e : p ≡ at). undone (who, n, mine, omega (arith, long), last ∙ sym e))
      ∙ plays.unanswered p (λ done. undone (done_then (at ∷ []) positions_are p done))

  -- its keys, its done keys and its answers
  module _ (answer : Option Bool) (share : keys_for g.keys next ≡ keys_for g.keys h) (positions_are : positions z next ≡ also_at (positions z h) (position_now h) answer) (counts : HasCounted h answer next) (hand : IsHand z g.kind g.keys next) (dealt : IsDealt game) where
    abbrev own_answers : ℕ → List Bool
    own_answers = updated plays.own_answers who (also_answered (plays.own_answers who) answer)

    -- the run after the turn, worker by worker as it was but for this one
    abbrev after : Run
    after = record (stepped (run_of g plays.own_answers) then who (view_of next)) { done = updated (done_at g) who (done_keys z g.keys next); answers = own_answers }

    alike : (v : ℕ) → v < z.workers → AreAlike after (record after { keep = keep game; keys = keys_at game; done = done_at game }) v
    alike v l = record {
      kept = at_then view_of (new_view [] 0) v;
      keys_are = same_as_was (keys_at g) who (keys_for g.keys next) (at_who (keys_for g.keys) [] ∙ sym share) v ∙ at_then (keys_for g.keys) [] v;
      done_are = at_then (done_keys z g.keys) [] v;
      answers_are = refl;
    }

    module _ (run : RunInvariant after) where
      running : RunInvariant (run_of game own_answers)
      running = runs_alike after (keep game) (keys_at game) (done_at game) own_answers alike run

      size_then : length (set g.hands who next) ≡ z.workers
      size_then = length-set g.hands who next ∙ plays.workers

      hands_then : All (IsHand z g.kind g.keys) (set g.hands who next)
      hands_then = All-set (IsHand z g.kind g.keys) g.hands who next hand plays.hands

      changed_then : (v : ℕ) → v < z.workers → changed_at game v ≡ count_by (λ so. so) (own_answers v)
      changed_then v l = at_hand_set (λ x. x.changed) 0 g.hands who next is v ∙ ⊎_elim
          (λ r. r.1 ∙ counts_then h next (plays.own_answers who) answer counts (sym (at_who (λ x. x.changed) 0) ∙ plays.changed who mine) ∙ ap (λ (l : List Bool). count_by (λ so. so) l) (sym (updated_here plays.own_answers who v (also_answered (plays.own_answers who) answer) r.0)))
          (λ r. r.1 ∙ plays.changed v l ∙ ap (λ (l : List Bool). count_by (λ so. so) l) (sym (updated_else plays.own_answers who v (also_answered (plays.own_answers who) answer) r.0)))
          (updated_at (changed_at g) who v next.changed)

      -- the position of the key is that of no other
      fresh_then : (so : Option Bool) → so ≡ answer → IsFresh so
      fresh_then None e = tt
      fresh_then (Some so) e = λ v j l inside same.
          let at_v : positions_at game v ≡ positions z (get_or (set g.hands who next) v next) = at_hand_is (positions z) [] (set g.hands who next) v next (omega (arith, l, size_then)) in
          let me : positions z (get_or (set g.hands who next) who next) ≡ positions z h ++ position_now h ∷ [] =
          ap (positions z) (get_or-set_same g.hands who next next is) ∙ positions_are ∙ ap (also_at (positions z h) (position_now h)) (sym e) in
          let n : ℕ = length (positions z h) in
          let long : length (positions z (get_or (set g.hands who next) who next)) ≡ n + 1 = ap length me ∙ length_push (positions z h) (position_now h) in
          apart z g.kind g.keys then (set g.hands who next) running.world running.core size_then hands_then next dealt who v n j mine l
          (omega (arith, long)) (subst (λ (l : List ℕ). j < length l) at_v inside)
          (ap (λ (l : List ℕ). get_or l n 0) me ∙ get_or_push (positions z h) (position_now h) 0 n refl ∙ sym same ∙ ap (λ (l : List ℕ). get_or l j 0) at_v)

      plays_then : Fits answer → answers ≡ answered g.answers (position_now h) answer → Plays game
      plays_then fits is_now = record {
        workers = size_then;
        opening = plays.opening;
        room = plays.room;
        keys = plays.keys;
        answers = ap length is_now ∙ same_size answer ∙ plays.answers;
        hands = hands_then;
        dealt = dealt;
        own_answers = own_answers;
        running = running;
        changed = changed_then;
        answered = λ v j l inside. stand_then answer fits (fresh_then answer refl) positions_are is_now v j l inside;
        unanswered = λ p undone. open_then answer positions_are is_now p undone;
      }
        where
          same_size : (answer : Option Bool) → length (answered g.answers (position_now h) answer) ≡ length g.answers
          same_size None = refl
          same_size (Some so) = length-set g.answers (position_now h) (Some so)

  by_step : (k : StepKind) → StepsOn z g.keys k (moment g.words g.answers h) (moment then answers next) → IsHand z g.kind g.keys next → Plays game
  by_step k s hand =
      let was : IsHand z g.kind g.keys h = hand_of g plays who mine d in
      let key : ℕ = slice_index g.keys (position_now h) in
      let kept : view_of h ≡ keep g who = sym (kept_at g plays who mine d) in
      let positions_are : positions z next ≡ also_at (positions z h) (position_now h) s.done = positions_then z g.keys h next s.makes.claims s.done s.share was.share hand.share s.counts in
      let done : also_done (done_at g who) key s.done ≡ done_keys z g.keys next = ap (λ (l : List ℕ). also_done l key s.done) (at_who (done_keys z g.keys) []) ∙ keys_then z g.keys h next s.done positions_are in
      let run = run_steps (run_of g plays.own_answers) who s.makes.step s.makes.word then (view_of next) key s.done mine
      (subst (λ (x : View). Allowed z x s.makes.step) kept s.makes.allowed)
      (subst (λ (x : View). StepsTo z s.makes.step g.words x s.makes.word then (view_of next)) kept s.makes.steps)
      (subst (λ (l : List ℕ). Contains l key) (sym (at_who (keys_for g.keys) [])) (next_among g.keys h.share h.done s.next_key s.within))
      (subst (λ (x : View). Advances z g.kind key x (view_of next) s.done) kept (subst (λ (k : Kind). Advances z k key (view_of h) (view_of next) s.done) was.kind_is s.advances))
      plays.running in
      plays_then s.done (ap (share_keys g.keys) s.share) positions_are s.counts hand (dealt_then g who d next is s.share plays.dealt)
      (subst (λ (l : List ℕ). RunInvariant (record (also_done_by (stepped (run_of g plays.own_answers) then who (view_of next)) who key s.done) { done = updated (done_at g) who l })) done run)
      (fits s.done s.within) s.answers_are
    where
      fits : (answer : Option Bool) → position_now h < length g.keys → Fits answer
      fits None within = tt
      fits (Some so) within = within

  by_claim : ClaimsOn z (moment g.words g.answers h) (moment then answers next) → IsHand z g.kind g.keys next → Plays game
  by_claim c hand =
      let was : IsHand z g.kind g.keys h = hand_of g plays who mine d in
      let kept : view_of h ≡ keep g who = sym (kept_at g plays who mine d) in
      let share = c.claiming.0.2 in
      let share_then = c.claiming.1.2 in
      let keys_are : keys_for g.keys next ≡ keys_for g.keys h = ap (share_keys g.keys) share_then ∙ sym (ap (share_keys g.keys) share) in
      let most : h.done ≤ length (claimed z (view_of h)) = done_claimed z h c.claiming.0.0 c.claiming.0.1 (subst (IsShare z g.keys h) share was.share).1 in
      let positions_are : positions z next ≡ positions z h =
      ap (λ (s : Share). positions_of z s (view_of next) next.done) share_then ∙ ap (λ (n : ℕ). take n (claimed z (view_of next))) c.counts.0
      ∙ first_stay z (view_of h) (view_of next) c.word (ap (λ (x : View). x.side.claims) c.steps.view_is) h.done most ∙ sym (ap (λ (s : Share). positions_of z s (view_of h) h.done) share) in
      let run = run_claims (run_of g plays.own_answers) who c.word then (view_of next) mine
      (subst (λ (x : View). Allowed z x Step.claims) kept c.allowed)
      (subst (λ (x : View). StepsTo z Step.claims g.words x c.word then (view_of next)) kept c.steps) plays.running in
      let done : done_at g who ≡ done_keys z g.keys next = at_who (done_keys z g.keys) [] ∙ sym (ap (map (slice_index g.keys)) positions_are) in
      plays_then None keys_are positions_are c.counts hand (claiming_then g who d next is c.claiming.0 c.claiming.1 plays.dealt)
      (subst (λ (t : ℕ → List Bool). RunInvariant (record (stepped (run_of g plays.own_answers) then who (view_of next)) { done = updated (done_at g) who (done_keys z g.keys next); answers = t })) (λ i v. same_as_was plays.own_answers who (plays.own_answers who) refl v i)
      (subst (λ (l : ℕ → List ℕ). RunInvariant (record (stepped (run_of g plays.own_answers) then who (view_of next)) { done = l })) (λ i v. same_as_was (done_at g) who (done_keys z g.keys next) done v i) run))
      tt c.answers_are

  -- nothing is changed
  by_nothing : then ≡ g.words → answers ≡ g.answers → next ≡ h → Plays game
  by_nothing words_are answers_are hand_is =
      let hands_are : set g.hands who next ≡ g.hands = ap (set g.hands who) hand_is ∙ set-get_or g.hands who d in
      subst Plays (λ i. record g { words = sym words_are i; answers = sym answers_are i; hands = sym hands_are i }) plays

pub plays_turn : (g : Game) → Plays g → (who : ℕ) → who < g.shape.workers → (d : Hand) (turn : Turn) (next : Moment)
    → TurnsOn g.shape g.keys (moment_of g who d) turn next → IsHand g.shape g.kind g.keys next.hand → Plays (turned g who next)
plays_turn g plays who mine d (Did k) next turns hand = ⊎_elim
    (λ (s : StepsOn g.shape g.keys k (moment_of g who d) next). by_step g plays who mine d next.hand next.words next.answers k s hand)
    (λ c. by_claim g plays who mine d next.hand next.words next.answers c.1 hand) turns
plays_turn g plays who mine d Finished next turns hand = by_nothing g plays who mine d next.hand next.words next.answers turns.0.0 turns.0.1 turns.0.2
plays_turn g plays who mine d Spent next turns hand = by_nothing g plays who mine d next.hand next.words next.answers turns.0.0 turns.0.1 turns.0.2
plays_turn g plays who mine d NoSuchWorker next turns hand = absurd turns
