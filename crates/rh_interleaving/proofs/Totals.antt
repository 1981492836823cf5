-- What is cut of all workers.
use Rattle.std.proofs.Common.{◌≡◌, ℕ, zero, suc, ◌+◌, ◌-◌, ◌^◌, ◌<◌, ◌≤◌, ⊎_elim, min, sym, refl, ap, ◌∙◌, subst, arith, List, [], ◌∷◌, length, length-append, map, take, get_or}
use Rattle.std.specs.Prelude.{All}
use Rattle.std.specs.List.{range_with_len}
use Rattle.std.proofs.lemmas.List.{take_all}
use Rattle.rh_ledger.specs.declared.tally.Kind.{Kind}
use Rattle.rh_ledger.specs.declared.tally.Kind.TheVariants.{Insert, Remove, Ask}
use Rattle.rh_ledger.specs.Phase.{tally_of}
use Rattle.rh_ledger.specs.Tally.{none_yet, sum_of}
use Rattle.rh_words.specs.declared.shape.Shape.{Shape}
use Rattle.rh_words.specs.View.{View}
use Rattle.rh_acts.specs.Workers.{how_many, joined, sum_of_all}
use Rattle.rh_ledger.specs.Tally.{tally_by}
use Rattle.rh_acts.proofs.Changing.{answers_count_changes}
use Rattle.rh_order.specs.Claimed.{claimed}
use Rattle.rh_order.proofs.Sharing.{claims_few}
use Rattle.rh_turns.specs.declared.hand.Hand.{Hand}
use Rattle.rh_turns.specs.declared.hand.Share.{Share}
use Rattle.rh_turns.specs.declared.hand.Share.TheVariants.{Piece, Claims}
use Rattle.rh_turns.specs.Hands.{IsClaiming, IsShare, positions, view_of}
use Rattle.rh_turns.specs.Game.{AllFinished, ArePieces, Game, Plays, changed_at, done_at, keep, positions_at, shares_of}
use Rattle.rh_turns.proofs.Apart.{end_of, first_of, piece_within}
use Rattle.rh_turns.proofs.AtHands.{at_hand_is}
use Rattle.rh_turns.proofs.Ended.{plays_ends}
use Rattle.rh_turns.proofs.Playing.{done_claimed, in_hands, kept_at, plays_moment, some_hand}
use Rattle.rh_turns.proofs.Telling.{positions_counted, answers_size}
use Rattle.rh_interleaving.proofs.Showing.{so_far}
use Rattle.rh_interleaving.specs.Made.{TallySpec, changed_count, cut, done_count, held_first, total}

-- one worker more
total_more : (f : Hand → ℕ) (hs : List Hand) (i : ℕ) (d : Hand) → i < length hs → total (map f (take (suc i) hs)) ≡ total (map f (take i hs)) + f (get_or hs i d)
total_more f [] i d inside = absurd (omega (arith, inside))
total_more f (h ∷ hs) zero d inside = omega arith
total_more f (h ∷ hs) (suc i) d inside =
    let rest : total (map f (take (suc i) hs)) ≡ total (map f (take i hs)) + f (get_or hs i d) = total_more f hs i d (omega (arith, inside)) in
    omega (arith, rest)

pub counted_next : (f : Hand → ℕ) (hs : List Hand) (i : ℕ) (h : Hand) → i < length hs → h ≡ get_or hs i h → (n : ℕ) → n ≡ cut (total (map f (take i hs)))
    → min (n + f h) (2 ^ 64 - 1) ≡ cut (total (map f (take (i + 1) hs)))
counted_next f hs i h inside is n before =
    let here : f h ≡ f (get_or hs i h) = ap f is in
    let on : suc i ≡ i + 1 = omega arith in
    let more : total (map f (take (suc i) hs)) ≡ total (map f (take i hs)) + f (get_or hs i h) = total_more f hs i h inside in
    let now : min (n + f h) (2 ^ 64 - 1) ≡ cut (total (map f (take (suc i) hs))) = omega (arith, here, more, before) in
    now ∙ ap (λ (k : ℕ). cut (total (map f (take k hs)))) on

total_least : (f g : Hand → ℕ) (hs : List Hand) → ((v : ℕ) (d : Hand) → v < length hs → f (get_or hs v d) ≤ g (get_or hs v d)) → total (map f hs) ≤ total (map g hs)
total_least f g [] less = omega arith
total_least f g (h ∷ hs) less =
    let first : f h ≤ g h = less 0 h (omega arith) in
    let rest : total (map f hs) ≤ total (map g hs) = total_least f g hs (λ v d inside. less (suc v) d (omega (arith, inside))) in
    omega (arith, first, rest)

total_same : (f g : Hand → ℕ) (hs : List Hand) → ((v : ℕ) (d : Hand) → v < length hs → f (get_or hs v d) ≡ g (get_or hs v d)) → total (map f hs) ≡ total (map g hs)
total_same f g [] same = refl
total_same f g (h ∷ hs) same =
    let first : f h ≡ g h = same 0 h (omega arith) in
    let rest : total (map f hs) ≡ total (map g hs) = total_same f g hs (λ v d inside. same (suc v) d (omega (arith, inside))) in
    omega (arith, first, rest)

-- ---- the sum of what the workers count

sum_by : (kind : Kind) (a b c d : ℕ) → sum_of (tally_by kind a b) (tally_by kind c d) ≡ tally_by kind (a + c) (b + d)
sum_by Insert a b c d = refl
sum_by Remove a b c d = refl
sum_by Ask a b c d = refl

none_by : (kind : Kind) → none_yet ≡ tally_by kind 0 0
none_by Insert = refl
none_by Remove = refl
none_by Ask = refl

sum_is : (kind : Kind) (f c : Hand → ℕ) (done changed : ℕ → ℕ) (hs : List Hand) (d : Hand) → ((v : ℕ) → v < length hs → (done v ≡ f (get_or hs v d)) × (changed v ≡ c (get_or hs v d)))
    → (n : ℕ) → n ≤ length hs → sum_of_all (λ v. tally_by kind (done v) (changed v)) n ≡ tally_by kind (total (map f (take n hs))) (total (map c (take n hs)))
sum_is kind f c done changed hs d are zero few = none_by kind
sum_is kind f c done changed hs d are (suc n) few =
    let inside : n < length hs = omega (arith, few) in
    let here = are n inside in
    (λ i. sum_of (sum_is kind f c done changed hs d are n (omega (arith, few)) i) (tally_by kind (here.0 i) (here.1 i)))
    ∙ sum_by kind (total (map f (take n hs))) (total (map c (take n hs))) (f (get_or hs n d)) (c (get_or hs n d))
    ∙ (λ i. tally_by kind (sym (total_more f hs n d inside) i) (sym (total_more c hs n d inside) i))

-- ---- sums of all workers

-- those of pieces that follow one another are no longer than the list
pieces_hold : (f : Hand → ℕ) (low : ℕ) (hs : List Hand) (count : ℕ) → ArePieces low (shares_of hs) count → ((v : ℕ) (d : Hand) → v < length hs → first_of (get_or hs v d).share + f (get_or hs v d) ≤ end_of (get_or hs v d).share)
    → total (map f hs) + low ≤ count
pieces_hold f low [] count are each = omega (arith, are)
pieces_hold f low (h ∷ hs) count are each =
    let first : first_of h.share ≡ low = ap first_of are.1 in
    let end : end_of h.share ≡ are.0 = ap end_of are.1 in
    let here = each 0 h (omega arith) in
    let rest = pieces_hold f are.0 hs count are.3 (λ v d inside. each (suc v) d (omega (arith, inside))) in
    omega (arith, first, end, here, rest)

few_by : (f : Hand → ℕ) (k : ℕ → ℕ) (hs : List Hand) (first : ℕ) → ((v : ℕ) (d : Hand) → v < length hs → f (get_or hs v d) ≤ k (first + v)) → total (map f hs) ≤ total (map k (range_with_len first (length hs)))
few_by f k [] first less = omega arith
few_by f k (h ∷ hs) first less =
    let start : first + 0 ≡ first = omega arith in
    let here : f h ≤ k first = subst (λ (n : ℕ). f h ≤ k n) start (less 0 h (omega arith)) in
    let rest : total (map f hs) ≤ total (map k (range_with_len (first + 1) (length hs))) = few_by f k hs (first + 1) (λ v d inside. subst (λ (n : ℕ). f (get_or hs v d) ≤ k n) (on v) (less (suc v) d (omega (arith, inside)))) in
    omega (arith, here, rest)
  where
    on : (v : ℕ) → first + suc v ≡ first + 1 + v
    on v = omega arith

joined_total : (f : ℕ → List ℕ) (first n : ℕ) → length (joined (map f (range_with_len first n))) ≡ total (map (λ v. length (f v)) (range_with_len first n))
joined_total f first zero = refl
joined_total f first (suc n) =
    let rest : length (joined (map f (range_with_len (first + 1) n))) ≡ total (map (λ v. length (f v)) (range_with_len (first + 1) n)) = joined_total f (first + 1) n in
    omega (arith, length-append (f first) (joined (map f (range_with_len (first + 1) n))), rest)

-- ---- at each moment

module _ (g : Game) (plays : Plays g) where
  counts_done : (v : ℕ) (d : Hand) → v < length g.hands → (get_or g.hands v d).done ≡ length (positions g.shape (get_or g.hands v d))
  counts_done v d inside = let h : Hand = get_or g.hands v d in sym (positions_counted g.shape g.keys h h.share (plays.hands v d inside).share)

  pub done_is : total (map (λ h. h.done) g.hands) ≡ done_count g
  done_is = total_same (λ h. h.done) (λ h. length (positions g.shape h)) g.hands counts_done

  -- ---- no more keys are done than the list has

  done_few : (v : ℕ) (d : Hand) (s : Share) → v < length g.hands → (get_or g.hands v d).share ≡ s → IsShare g.shape g.keys (get_or g.hands v d) s
  done_few v d s inside is = subst (IsShare g.shape g.keys (get_or g.hands v d)) is (plays.hands v d inside).share

  few_pieces : ArePieces 0 (shares_of g.hands) (length g.keys) → done_count g ≤ length g.keys
  few_pieces are =
      let all = pieces_hold (λ h. length (positions g.shape h)) 0 g.hands (length g.keys) are (λ v d inside.
      let r = piece_within 0 g.hands (length g.keys) are v d inside in
      let done : r.0 + (get_or g.hands v d).done ≤ r.1 = (done_few v d (Piece r.0 r.1) inside r.2).0 in
      let count : (get_or g.hands v d).done ≡ length (positions g.shape (get_or g.hands v d)) = counts_done v d inside in
      let first : first_of (get_or g.hands v d).share ≡ r.0 = ap first_of r.2 in
      let end : end_of (get_or g.hands v d).share ≡ r.1 = ap end_of r.2 in
      omega (arith, done, count, first, end)) in
      omega (arith, all)

  few_claims : All IsClaiming g.hands → done_count g ≤ length g.keys
  few_claims are =
      let z : Shape = g.shape in
      let run = plays.running in
      let d : Hand = some_hand g plays in
      let some : 0 < length g.hands = in_hands g plays 0 g.shape.some_worker in
      let each : (v : ℕ) (d : Hand) → v < length g.hands → length (positions z (get_or g.hands v d)) ≤ length (claimed z (keep g (0 + v))) = λ v d inside.
      let c = are v d inside in
      let most = done_claimed z (get_or g.hands v d) c.0 c.1 (done_few v d (Claims c.0 c.1) inside c.2).1 in
      let count : (get_or g.hands v d).done ≡ length (positions z (get_or g.hands v d)) = counts_done v d inside in
      let kept : length (claimed z (keep g v)) ≡ length (claimed z (view_of (get_or g.hands v d))) = ap (λ (x : View). length (claimed z x)) (kept_at g plays v (omega (arith, inside, plays.workers)) d) in
      let same : v ≡ 0 + v = omega arith in
      subst (λ (n : ℕ). length (positions z (get_or g.hands v d)) ≤ length (claimed z (keep g n))) same (omega (arith, most, count, kept)) in
      let few = few_by (λ h. length (positions z h)) (λ v. length (claimed z (keep g v))) g.hands 0 each in
      let joined_is : length (joined (map (λ v. claimed z (keep g v)) (range_with_len 0 (length g.hands)))) ≡ total (map (λ v. length (claimed z (keep g v))) (range_with_len 0 (length g.hands))) =
      joined_total (λ v. claimed z (keep g v)) 0 (length g.hands) in
      let all : length (joined (map (λ v. claimed z (keep g v)) (range_with_len 0 (length g.hands)))) ≤ z.keys =
      subst (λ (n : ℕ). length (joined (map (λ v. claimed z (keep g v)) (range_with_len 0 n))) ≤ z.keys) (sym plays.workers) (claims_few run.world z g.words (keep g) run.core (held_first g)) in
      let c = are 0 d some in
      let long : z.keys ≡ length g.keys = (done_few 0 d (Claims c.0 c.1) some c.2).0 in
      omega (arith, few, joined_is, all, long)

  done_within : done_count g ≤ length g.keys
  done_within = ⊎_elim few_pieces few_claims plays.dealt

  some_changed : changed_count g ≤ done_count g
  some_changed =
      let few = total_least (λ h. h.changed) (λ h. h.done) g.hands (λ v d inside. (plays.hands v d inside).some) in
      let same = done_is in
      omega (arith, few, same)

  small : (n : ℕ) → n < 2 ^ 63 → cut n ≡ n
  small n less = omega (arith, less)

  -- so no count ends at the greatest number
  pub counts_exactly : length g.keys < 2 ^ 63 → (cut (done_count g) ≡ done_count g) × (cut (changed_count g) ≡ changed_count g)
  counts_exactly short = (small (done_count g) (omega (arith, short, done_within)), small (changed_count g) (omega (arith, short, done_within, some_changed)))

  -- the counts are the sum of those of the workers
  sums : (done changed : ℕ → ℕ) → ((v : ℕ) → v < length g.hands → (done v ≡ length (positions_at g v)) × (changed v ≡ changed_at g v))
      → tally_by g.kind (done_count g) (changed_count g) ≡ sum_of_all (λ v. tally_by g.kind (done v) (changed v)) g.shape.workers
  sums done changed are =
      let d : Hand = some_hand g plays in
      let all : g.hands ≡ take (length g.hands) g.hands = sym (take_all (length g.hands) g.hands (omega arith)) in
      (λ i. tally_by g.kind (total (map (λ h. length (positions g.shape h)) (all i))) (total (map (λ h. h.changed) (all i))))
      ∙ sym (sum_is g.kind (λ h. length (positions g.shape h)) (λ h. h.changed) done changed g.hands d
      (λ v inside. ((are v inside).0 ∙ ap length (at_hand_is (positions g.shape) [] g.hands v d inside), (are v inside).1 ∙ at_hand_is (λ h. h.changed) 0 g.hands v d inside))
      (length g.hands) (omega arith))
      ∙ ap (sum_of_all (λ v. tally_by g.kind (done v) (changed v))) plays.workers

  pub tallies : TallySpec g (tally_by g.kind (done_count g) (changed_count g))
  tallies =
      let moment = plays_moment g plays in
      record {
        so_far = so_far g plays;
        sums = sums (λ v. length (plays.own_answers v)) (λ v. how_many (plays.own_answers v))
            (λ v inside. let mine : v < g.shape.workers = omega (arith, inside, plays.workers) in (answers_size g plays v mine, sym (plays.changed v mine)));
        changed = λ changed v mine. let is = moment.did v mine in (answers_count_changes g.kind g.shape.bits is.reads (done_at g v) is.acts (plays.own_answers v) is.each).1 changed;
      }

  -- ---- at the end

  pub tally_ends : AllFinished g → tally_by g.kind (done_count g) (changed_count g) ≡ tally_of g.kind (held_first g) g.keys
  tally_ends finished = sums (λ v. length (positions_at g v)) (changed_at g) (λ v inside. (refl, refl)) ∙ (plays_ends g plays finished).tally
