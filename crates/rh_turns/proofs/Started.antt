-- A game that is started is in play.
use Rattle.std.proofs.Common.{◌≡◌, ℕ, zero, suc, ◌<◌, inl, inr, ⊎_elim, sym, refl, ap, ◌∙◌, subst, arith, Bool, false, true≢false, Option, None, List, [], length, map, replicate, get_or}
use Rattle.std.specs.Prelude.{slice_index, All}
use Rattle.std.proofs.lemmas.List.{length-replicate}
use Rattle.rh_tagword.specs.Word.{plain_number}
use Rattle.rh_world.specs.World.{In}
use Rattle.rh_words.specs.declared.shape.Shape.{Shape}
use Rattle.rh_words.specs.View.{View, new_view}
use Rattle.rh_order.specs.Claimed.{claimed}
use Rattle.rh_order.specs.Laws.{AreAlike, started}
use Rattle.rh_order.specs.Run.{Run, RunInvariant}
use Rattle.rh_order.proofs.Alike.{runs_alike}
use Rattle.rh_order.proofs.Turning.{run_starts}
use Rattle.rh_turns.specs.declared.hand.Hand.{Hand}
use Rattle.rh_turns.specs.declared.hand.Share.{Share}
use Rattle.rh_turns.specs.declared.hand.Share.TheVariants.{Piece, Claims}
use Rattle.rh_turns.specs.Hands.{IsHand, IsShare, done_keys, positions_of, view_of}
use Rattle.rh_turns.specs.Game.{ArePieces, Game, IsDealt, Plays, at_hand, done_at, keep, keys_at, run_of, shares_of}
use Rattle.rh_turns.specs.Laws.{GameStarts, WillClaim}
use Rattle.rh_turns.proofs.AtHands.{at_hand_is, first_of_all}
use Rattle.rh_turns.proofs.Apart.{piece_within}

abbrev no_answers : ℕ → List (Option Bool)
no_answers n = replicate n None

-- no answer stands at any position
none_at : (n p : ℕ) → get_or (no_answers n) p None ≡ None
none_at zero p = refl
none_at (suc n) zero = refl
none_at (suc n) (suc p) = none_at n p

none_claimed : (z : Shape) (h : Hand) (cells : List ℕ) (v : ℕ) → view_of h ≡ new_view cells v → claimed z (view_of h) ≡ []
none_claimed z h cells v is = ap (claimed z) is

module _ (g : Game) (starts : GameStarts g) where
  abbrev z : Shape
  z = g.shape

  abbrev words : List ℕ
  words = map plain_number g.opening

  inside : (v : ℕ) → v < z.workers → v < length g.hands
  inside v mine = omega (arith, mine, starts.workers)

  d : Hand
  d = first_of_all g.hands (inside 0 g.shape.some_worker)

  at_v : {A : Type 0} (f : Hand → A) (default : A) (v : ℕ) → v < z.workers → at_hand f default g.hands v ≡ f (get_or g.hands v d)
  at_v f default v mine = at_hand_is f default g.hands v d (inside v mine)

  share_of : (v : ℕ) (e : Hand) → v < z.workers → IsShare z g.keys (get_or g.hands v e) (get_or g.hands v e).share
  share_of v e mine =
      let h : Hand = get_or g.hands v e in
      let new = starts.hands v e mine in
      ⊎_elim
      (λ (are : ArePieces 0 (shares_of g.hands) (length g.keys)).
      let r = piece_within 0 g.hands (length g.keys) are v e (inside v mine) in
      subst (IsShare z g.keys h) (sym r.2) (omega (arith, r.3, new.done), r.4, inl new.idle))
      (λ (are : (z.keys ≡ length g.keys) × All WillClaim g.hands).
      let c = are.1 v e (inside v mine) in
      subst (IsShare z g.keys h) (sym c.1) (
        are.0,
        record {
          idle = λ i. ap length (none_claimed z h words v new.view) ∙ sym new.done;
          busy = inl new.idle;
          within = λ f n i. absurd (subst (λ (x : View). In n x.side.claims) new.view i);
          end = λ f. absurd (true≢false (sym f));
        },
      )) starts.dealt

  hand_is : (v : ℕ) (e : Hand) → v < z.workers → IsHand z g.kind g.keys (get_or g.hands v e)
  hand_is v e mine =
      let new = starts.hands v e mine in
      record {
        worker = new.worker;
        kind_is = new.kind_is;
        share = share_of v e mine;
        key = inl new.idle;
        some = omega (arith, new.done, new.changed);
      }

  none_done : (h : Hand) → h.done ≡ 0 → [] ≡ done_keys z g.keys h
  none_done h is = go h.share ∙ sym (ap (λ (n : ℕ). map (slice_index g.keys) (positions_of z h.share (view_of h) n)) is)
    where
      go : (s : Share) → [] ≡ map (slice_index g.keys) (positions_of z s (view_of h) 0)
      go (Piece first end) = refl
      go (Claims last ended) = refl

  -- the run of a table that was just made
  abbrev first : Run
  first = started g.kind z g.opening (keys_at g)

  alike : (v : ℕ) → v < z.workers → AreAlike first (record first { keep = keep g; done = done_at g }) v
  alike v mine =
      let new = starts.hands v d mine in
      record {
        kept = sym new.view ∙ sym (at_v view_of (new_view [] 0) v mine);
        keys_are = refl;
        done_are = none_done (get_or g.hands v d) new.done ∙ sym (at_v (done_keys z g.keys) [] v mine);
        answers_are = refl;
      }

  running : RunInvariant (run_of g (λ v. []))
  running = subst (λ (l : List ℕ). RunInvariant (record (run_of g (λ v. [])) { words = l })) (sym starts.words)
      (runs_alike first (keep g) (keys_at g) (done_at g) (λ v. []) alike (run_starts g.kind z g.opening (keys_at g) starts.opening.size))

  dealt : IsDealt g
  dealt = ⊎_elim (λ (are : ArePieces 0 (shares_of g.hands) (length g.keys)). inl are)
      (λ (are : (z.keys ≡ length g.keys) × All WillClaim g.hands). inr (λ k e l. let c = are.1 k e l in (c.0, false, c.1))) starts.dealt

  pub plays_start : Plays g
  plays_start = record {
    workers = starts.workers;
    opening = starts.opening;
    room = starts.room;
    keys = starts.keys;
    answers = ap length starts.answers ∙ length-replicate (length g.keys) None;
    hands = λ k e l. hand_is k e (omega (arith, l, starts.workers));
    dealt = dealt;
    own_answers = λ v. [];
    running = running;
    changed = λ v mine. at_v (λ h. h.changed) 0 v mine ∙ (starts.hands v d mine).changed;
    answered = λ v j mine l. absurd (omega (arith, l));
    unanswered = λ p undone. ap (λ (a : List (Option Bool)). get_or a p None) starts.answers ∙ none_at (length g.keys) p;
  }
