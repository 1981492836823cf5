-- A further round keeps what is so of the game.
use Rattle.std.proofs.Common.{◌≡◌, ℕ, suc, ◌+◌, ◌<◌, ◌≤◌, ◌⊎◌, inl, inr, ⊎_elim, sym, refl, ap, ◌∙◌, subst, arith, None, List, [], ◌∷◌, ◌++◌, length, map, filter, reverse, get_or}
use Rattle.std.specs.Prelude.{nat_lt, slice_index, slice_index_or, All}
use Rattle.std.proofs.lemmas.List.Elements.{All-from_get_or}
use Rattle.rh_ledger.specs.declared.tally.Kind.{Kind}
use Rattle.rh_world.specs.World.{In}
use Rattle.rh_words.specs.declared.shape.Shape.{Shape}
use Rattle.rh_words.specs.Parts.{cell_count}
use Rattle.rh_words.specs.View.{View, new_view, round_view}
use Rattle.rh_worker.specs.Worker.{IsBusy}
use Rattle.rh_worker.specs.declared.stage.KeyStage.{KeyStage}
use Rattle.rh_worker.specs.declared.stage.KeyStage.TheVariants as stage
use Rattle.rh_order.specs.Claimed.{claimed}
use Rattle.rh_order.specs.Laws.{AreAlike}
use Rattle.rh_order.specs.Run.{Run, RunInvariant}
use Rattle.rh_order.specs.Words.{IsWiped}
use Rattle.rh_order.proofs.Alike.{runs_alike}
use Rattle.rh_order.proofs.Turning.{run_rounds}
use Rattle.rh_turns.specs.declared.hand.Hand.{Hand}
use Rattle.rh_turns.specs.declared.hand.Share.{Share}
use Rattle.rh_turns.specs.declared.hand.Share.TheVariants.{Piece, Claims}
use Rattle.rh_turns.specs.Hands.{IsAtKey, IsClaiming, IsFinished, IsHand, IsIdle, IsShare, IsSpent, done_keys, keys_for, share_keys, position_now, position_of, positions, positions_of, view_of}
use Rattle.rh_turns.specs.Game.{AllStopped, ArePieces, Game, IsDealt, Plays, at_hand, done_at, keep, keys_at, positions_at, run_of, shares_of}
use Rattle.rh_turns.specs.Laws.{HandBegins, begun}
use Rattle.rh_turns.proofs.AtHands.{at_hand_is}
use Rattle.rh_turns.proofs.Playing.{in_hands, plays_stopped, some_hand}
use Rattle.rh_turns.proofs.Turned.{same_claims}

-- ---- one worker

idle_not_spent : (p : KeyStage) → p ≡ stage.Idle → p ≡ stage.Spent → ⊥
idle_not_spent p idle spent = cc

module _ (z : Shape) (kind : Kind) (keys cells : List ℕ) (h next : Hand) (begins : HandBegins z cells h next) where
  claims_same : (view_of next).side.claims ≡ (view_of h).side.claims
  claims_same = ap (λ (v : View). v.side.claims) begins.view

  claimed_same : claimed z (view_of next) ≡ claimed z (view_of h)
  claimed_same = ap (λ (l : List ℕ). reverse (filter (λ i. nat_lt i z.keys) l)) claims_same

  pub positions_same : positions z next ≡ positions z h
  positions_same = ap (λ (s : Share). positions_of z s (view_of next) next.done) begins.share ∙ same_claims z (view_of h) (view_of next) h.share next.done claims_same ∙ ap (positions_of z h.share (view_of h)) begins.done

  -- both are idle, or neither is
  abbrev IdleSo : Type 0
  IdleSo = (IsIdle h × IsIdle next) ⊎ ((IsIdle h → ⊥) × (IsIdle next → ⊥))

  idle_so : IsFinished h ⊎ IsSpent h → IdleSo
  idle_so stopped = ⊎_elim (λ (f : IsFinished h). inl (f.0, begins.idle f.0))
      (λ (s : IsSpent h). inr (λ e. idle_not_spent h.worker.stage e s, λ e. subst IsBusy e (begins.again s))) stopped

  still : {A : Type 0} → IdleSo → IsIdle h ⊎ A → IsIdle next ⊎ A
  still so o = ⊎_elim (λ (e : IsIdle h). ⊎_elim (λ (both : IsIdle h × IsIdle next). inl both.1) (λ neither. absurd (neither.0 e)) so) (λ a. inr a) o

  was_idle : IdleSo → IsIdle next → IsIdle h
  was_idle so e = ⊎_elim (λ (both : IsIdle h × IsIdle next). both.0) (λ neither. absurd (neither.1 e)) so

  share_begins : IdleSo → (s : Share) → IsShare z keys h s → IsShare z keys next s
  share_begins so (Piece first end) o =
      (subst (λ (n : ℕ). first + n ≤ end) (sym begins.done) o.0, o.1, subst (λ (n : ℕ). IsIdle next ⊎ (first + n < end)) (sym begins.done) (still so o.2))
  share_begins so (Claims last ended) o = (
    o.0,
    record {
      idle = λ e. ap length claimed_same ∙ o.1.idle (was_idle so e) ∙ sym begins.done;
      busy = ⊎_elim (λ (e : IsIdle next). inl e)
          (λ b. inr (claimed_same ∙ b.0 ∙ ap (λ (l : List ℕ). l ++ last ∷ []) (sym positions_same), ap length positions_same ∙ b.1 ∙ sym begins.done, b.2)) (still so o.1.busy);
      within = λ e n i. o.1.within e n (subst (λ (l : List ℕ). In n l) claims_same i);
      end = λ e. let f = o.1.end e in (f.0, subst (λ (l : List ℕ). In f.0 l) (sym claims_same) f.1, f.2);
    },
  )

  at_key : IsAtKey keys h → IsAtKey keys next
  at_key at =
      let same : position_now next ≡ position_now h = ap (λ (s : Share). position_of s next.done) begins.share ∙ ap (position_of h.share) begins.done in
      record {
        within = subst (λ (p : ℕ). p < length keys) (sym same) at.within;
        key = ap (slice_index keys) same ∙ at.key ∙ sym begins.key_same;
      }

  pub hand_begins : IsFinished h ⊎ IsSpent h → IsHand z kind keys h → IsHand z kind keys next
  hand_begins stopped hand =
      let so = idle_so stopped in
      record {
        worker = begins.worker;
        kind_is = begins.kind_same ∙ hand.kind_is;
        share = subst (IsShare z keys next) (sym begins.share) (share_begins so h.share hand.share);
        key = ⊎_elim (λ (e : IsIdle next). inl e) (λ at. inr (at_key at)) (still so hand.key);
        some = omega (arith, hand.some, begins.done, begins.changed);
      }

-- ---- all of them

pieces_alike : (low : ℕ) (hs ks : List Hand) (count : ℕ) → length ks ≡ length hs → ((v : ℕ) (d : Hand) → v < length hs → (get_or ks v d).share ≡ (get_or hs v d).share) → ArePieces low (shares_of hs) count → ArePieces low (shares_of ks) count
pieces_alike low [] [] count size same are = are
pieces_alike low [] (k ∷ ks) count size same are = absurd (omega (arith, size))
pieces_alike low (h ∷ hs) [] count size same are = absurd (omega (arith, size))
pieces_alike low (h ∷ hs) (k ∷ ks) count size same are =
    (are.0, same 0 h (omega arith) ∙ are.1, are.2, pieces_alike are.0 hs ks count (omega (arith, size)) (λ v d l. same (suc v) d (omega (arith, l))) are.3)

-- the game as a round begins
module _ (g : Game) (plays : Plays g) (stopped : AllStopped g) (then cells : List ℕ) (wiped : IsWiped g.shape g.words then) (same : (c : ℕ) → c < cell_count g.shape → slice_index g.words c ≡ slice_index cells c) (hands : List Hand) (size : length hands ≡ length g.hands) (begins : (v : ℕ) (d : Hand) → v < length g.hands → HandBegins g.shape cells (get_or g.hands v d) (get_or hands v d)) where
  abbrev z : Shape
  z = g.shape

  abbrev d : Hand
  d = some_hand g plays

  abbrev game : Game
  game = begun g then hands

  inside : (v : ℕ) → v < z.workers → v < length g.hands
  inside v mine = in_hands g plays v mine

  was : {A : Type 0} (f : Hand → A) (default : A) (v : ℕ) → v < z.workers → at_hand f default g.hands v ≡ f (get_or g.hands v d)
  was f default v mine = at_hand_is f default g.hands v d (inside v mine)

  now : {A : Type 0} (f : Hand → A) (default : A) (v : ℕ) → v < z.workers → f (get_or hands v d) ≡ at_hand f default hands v
  now f default v mine = sym (at_hand_is f default hands v d (omega (arith, inside v mine, size)))

  of : (v : ℕ) → v < z.workers → HandBegins z cells (get_or g.hands v d) (get_or hands v d)
  of v mine = begins v d (inside v mine)

  positions_are : (v : ℕ) → v < z.workers → positions_at g v ≡ positions_at game v
  positions_are v mine = was (positions z) [] v mine ∙ sym (positions_same z g.kind g.keys cells (get_or g.hands v d) (get_or hands v d) (of v mine)) ∙ now (positions z) [] v mine

  -- the run after the wipe
  abbrev after : Run
  after = record (run_of g plays.own_answers) { words = then; keep = λ v. round_view cells (keep g v) }

  alike : (v : ℕ) → v < z.workers → AreAlike after (record after { keep = keep game; keys = keys_at game; done = done_at game }) v
  alike v mine = record {
    kept = ap (round_view cells) (was view_of (new_view [] 0) v mine) ∙ sym (of v mine).view ∙ now view_of (new_view [] 0) v mine;
    keys_are = was (keys_for g.keys) [] v mine ∙ ap (share_keys g.keys) (sym (of v mine).share) ∙ now (keys_for g.keys) [] v mine;
    done_are = was (done_keys z g.keys) [] v mine
        ∙ ap (map (slice_index g.keys)) (sym (positions_same z g.kind g.keys cells (get_or g.hands v d) (get_or hands v d) (of v mine))) ∙ now (done_keys z g.keys) [] v mine;
    answers_are = refl;
  }

  running : RunInvariant (run_of game plays.own_answers)
  running = runs_alike after (keep game) (keys_at game) (done_at game) plays.own_answers alike
      (run_rounds (run_of g plays.own_answers) then cells (plays_stopped g plays stopped) same wiped plays.running)

  share_same : (v : ℕ) (e : Hand) → v < length g.hands → (get_or hands v e).share ≡ (get_or g.hands v e).share
  share_same v e l = (begins v e l).share

  dealt : IsDealt game
  dealt = ⊎_elim (λ (are : ArePieces 0 (shares_of g.hands) (length g.keys)). inl (pieces_alike 0 g.hands hands (length g.keys) size share_same are))
      (λ (are : All IsClaiming g.hands). inr (All-from_get_or IsClaiming hands d (λ v l.
      let here : v < length g.hands = omega (arith, l, size) in
      let c = are v d here in (c.0, c.1, share_same v d here ∙ c.2)))) plays.dealt

  pub plays_round : Plays game
  plays_round = record {
    workers = size ∙ plays.workers;
    opening = plays.opening;
    room = plays.room;
    keys = plays.keys;
    answers = plays.answers;
    hands = All-from_get_or (IsHand z g.kind g.keys) hands d (λ v l.
        let here : v < length g.hands = omega (arith, l, size) in
        hand_begins z g.kind g.keys cells (get_or g.hands v d) (get_or hands v d) (begins v d here) (stopped v d here) (plays.hands v d here));
    dealt = dealt;
    own_answers = plays.own_answers;
    running = running;
    changed = λ v mine. sym (now (λ h. h.changed) 0 v mine) ∙ (of v mine).changed ∙ sym (was (λ h. h.changed) 0 v mine) ∙ plays.changed v mine;
    answered = λ v j mine l. ap (λ (at : List ℕ). slice_index_or g.answers (slice_index at j) None) (sym (positions_are v mine)) ∙ plays.answered v j mine l;
    unanswered = λ p undone. plays.unanswered p (λ done.
        let same : positions_at g done.0 ≡ positions_at game done.0 = positions_are done.0 done.2 in
        undone (done.0, done.1, done.2, subst (λ (at : List ℕ). done.1 < length at) same done.3, ap (λ (at : List ℕ). slice_index at done.1) (sym same) ∙ done.4));
  }
