-- What a turn makes of a game in play.
use Rattle.std.proofs.Common.{◌≡◌, ℕ, ◌<◌, ◌≤◌, sym, refl, ap, ◌∙◌, subst, arith, Option, Bool, List, [], length, set, get_or}
use Rattle.std.proofs.lemmas.List.{get_or_default, set-get_or}
use Rattle.rh_ledger.specs.declared.tally.Kind.{Kind}
use Rattle.rh_words.specs.declared.steps.StepKind.{StepKind}
use Rattle.rh_words.specs.View.{new_view}
use Rattle.rh_carrier.specs.Relies.{Relies, Serves, Shows}
use Rattle.rh_worker.specs.Worker.{HasNoRoom}
use Rattle.rh_turns.specs.declared.hand.Hand.{Hand}
use Rattle.rh_turns.specs.declared.turning.Turn.{Turn}
use Rattle.rh_turns.specs.declared.turning.Turn.TheVariants.{Did, Finished, Spent, NoSuchWorker}
use Rattle.rh_recorder.specs.Records.{Records}
use Rattle.rh_recorder.specs.declared.recorder.Touched.{Touched}
use Rattle.rh_turns.specs.Hands.{IsHand, Moment, TurnsBy, moment, view_of}
use Rattle.rh_turns.specs.Game.{Game, Plays}
use Rattle.rh_turns.specs.Laws.{moment_of, turned}
use Rattle.rh_turns.proofs.AtHands.{at_hand_is}
use Rattle.rh_turns.proofs.Recorded.{recorded_turn}
use Rattle.rh_turns.proofs.Playing.{hand_of, kind_of_hand, plays_done, plays_relies}
use Rattle.rh_turns.proofs.Turned.{plays_turn}
use Rattle.rh_interleaving.specs.Turned.{MakesOneStep, Traced, Turned, touched_in}

module _ (g : Game) (plays : Plays g) (who : ℕ) (inside : who < length g.hands) (h : Hand) (h_is : h ≡ get_or g.hands who h) where
  mine : who < g.shape.workers
  mine = omega (arith, inside, plays.workers)

  pub relies_on : (words : List ℕ) → words ≡ g.words → Relies Shows Serves g.shape words (view_of h)
  relies_on words words_are =
      subst (λ (ws : List ℕ). Relies Shows Serves g.shape ws (view_of h)) (sym words_are)
      (subst (λ (x : Hand). Relies Shows Serves g.shape g.words (view_of x)) (sym h_is) (plays_relies g plays who mine h))

  kind_same : h.worker.kind ≡ g.kind
  kind_same = ap (λ (x : Hand). x.worker.kind) h_is ∙ kind_of_hand g plays who mine h

  pub is_hand : (keys : List ℕ) → keys ≡ g.keys → IsHand g.shape h.worker.kind keys h
  is_hand keys keys_are =
      subst (λ (ks : List ℕ). IsHand g.shape h.worker.kind ks h) (sym keys_are)
      (subst (λ (k : Kind). IsHand g.shape k g.keys h) (sym kind_same) (subst (IsHand g.shape g.kind g.keys) (sym h_is) (hand_of g plays who mine h)))

  pub few_done : (keys : List ℕ) → keys ≡ g.keys → h.done ≤ length keys
  few_done keys keys_are = subst (λ (ks : List ℕ). h.done ≤ length ks) (sym keys_are) (subst (λ (x : Hand). x.done ≤ length g.keys) (sym h_is) (plays_done g plays who mine h))

  module _ (keys words : List ℕ) (answers : List (Option Bool)) (keys_are : keys ≡ g.keys) (words_are : words ≡ g.words) (answers_are : answers ≡ g.answers)
      (last : Option Touched) (turn : Turn) (next : Moment) (turns : TurnsBy (Records last) g.shape keys (moment words answers h) turn next) where
    turns_on : (other : Hand) → TurnsBy (Records last) g.shape g.keys (moment_of g who other) turn next
    turns_on other =
        subst (λ (ks : List ℕ). TurnsBy (Records last) g.shape ks (moment_of g who other) turn next) keys_are
        (subst (λ (ws : List ℕ). TurnsBy (Records last) g.shape keys (record (moment_of g who other) { words = ws }) turn next) words_are
        (subst (λ (ts : List (Option Bool)). TurnsBy (Records last) g.shape keys (moment words ts (get_or g.hands who other)) turn next) answers_are
        (subst (λ (x : Hand). TurnsBy (Records last) g.shape keys (moment words answers x) turn next) (h_is ∙ get_or_default g.hands who h other inside) turns)))

    pub plays_on : IsHand g.shape h.worker.kind keys next.hand → (ws : List ℕ) (ts : List (Option Bool)) → ws ≡ next.words → ts ≡ next.answers → Plays (turned g who (moment ws ts next.hand))
    plays_on hand ws ts ws_are ts_are =
        let of_game : IsHand g.shape g.kind g.keys next.hand = subst (λ (k : Kind). IsHand g.shape k g.keys next.hand) kind_same (subst (λ (ks : List ℕ). IsHand g.shape h.worker.kind ks next.hand) keys_are hand) in
        subst (λ (x : List ℕ). Plays (turned g who (moment x ts next.hand))) (sym ws_are)
        (subst (λ (x : List (Option Bool)). Plays (turned g who (record next { answers = x }))) (sym ts_are) (plays_turn g plays who mine h turn next (recorded_turn last g.shape g.keys (moment_of g who h) next turn (turns_on h)) of_game))

  -- nothing changed
  same_game : (next : Moment) → next.words ≡ g.words → next.answers ≡ g.answers → next.hand ≡ get_or g.hands who h → turned g who next ≡ g
  same_game next words answers hand = λ i. record g { words = words i; answers = answers i; hands = (ap (set g.hands who) hand ∙ set-get_or g.hands who h) i }

  has_turned : (last : Option Touched) (turn : Turn) (next : Moment) → ((other : Hand) → TurnsBy (Records last) g.shape g.keys (moment_of g who other) turn next) → Traced g who turn (touched_in turn last) (turned g who next)
  has_turned last (Did k) next on = record { worker = inside; stepped = next.hand; next_is = refl; turns = on }
  has_turned last Finished next on =
      let same = (on h).0 in
      ((same_game next same.0 same.1 same.2, inside, λ other. (on other).1), refl)
  has_turned last Spent next on =
      let now = on h in (
        (
          same_game next now.0.0 now.0.1 now.0.2,
          inside,
          λ other. (on other).1,
          subst (HasNoRoom g.shape) (sym (at_hand_is view_of (new_view [] 0) g.hands who h inside)) now.2,
        ),
        refl,
      )
  has_turned last NoSuchWorker next on = absurd (on h)

  module _ (keys words : List ℕ) (answers : List (Option Bool)) (keys_are : keys ≡ g.keys) (words_are : words ≡ g.words) (answers_are : answers ≡ g.answers)
      (last : Option Touched) (turn : Turn) (next : Moment) (turns : TurnsBy (Records last) g.shape keys (moment words answers h) turn next) where
    pub turned_to : (now : Game) → g ≡ now → (ws : List ℕ) (ts : List (Option Bool)) → ws ≡ next.words → ts ≡ next.answers → Traced now who turn (touched_in turn last) (turned g who (moment ws ts next.hand))
    turned_to now now_is ws ts ws_are ts_are =
        subst (λ (x : Game). Traced x who turn (touched_in turn last) (turned g who (moment ws ts next.hand))) now_is
        (subst (λ (x : List ℕ). Traced g who turn (touched_in turn last) (turned g who (moment x ts next.hand))) (sym ws_are)
        (subst (λ (x : List (Option Bool)). Traced g who turn (touched_in turn last) (turned g who (record next { answers = x }))) (sym ts_are)
        (has_turned last turn next (turns_on keys words answers keys_are words_are answers_are last turn next turns))))

-- what is traced is a turn
steps_so : (g : Game) (who : ℕ) (k : StepKind) (touched : Option Touched) (next : Game) → MakesOneStep (Records touched) g who k next → Turned g who (Did k) next
steps_so g who k touched next s = record {
  worker = s.worker;
  stepped = s.stepped;
  next_is = s.next_is;
  turns = λ other. recorded_turn touched g.shape g.keys (moment_of g who other) (moment next.words next.answers s.stepped) (Did k) (s.turns other);
}

pub turned_so : (g : Game) (who : ℕ) (turn : Turn) (touched : Option Touched) (next : Game) → Traced g who turn touched next → Turned g who turn next
turned_so g who (Did k) touched next t = steps_so g who k touched next t
turned_so g who Finished touched next t = t.0
turned_so g who Spent touched next t = t.0
turned_so g who NoSuchWorker touched next t = t.0
