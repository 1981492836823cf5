-- What is so of the workers of a player, and of its words.
use Rattle.std.proofs.Common.{◌≡◌, ℕ, ◌+◌, ◌-◌, ◌<◌, ◌≤◌, ◌⊎◌, inl, inr, ⊎_elim, sym, refl, ap, ◌∙◌, subst, arith, Bool, true, false, cond, List, [], ◌∷◌, ◌++◌, length, map, filter, get_or}
use Rattle.std.specs.Prelude.{nat_lt, slice_index}
use Rattle.std.specs.List.{Contains, range_with_len}
use Rattle.std.proofs.lemmas.Bool.{ltb-true}
use Rattle.std.proofs.lemmas.List.{length-reverse, length_push}
use Rattle.std.proofs.lemmas.List.Elements.{Contains-get_or}
use Rattle.std.proofs.lemmas.List.FromFn.{get_or-map-range_with_len, length-map-range_with_len}
use Rattle.rh_layout.specs.Layout.{keys_of}
use Rattle.rh_world.specs.World.{Cell, Control, In, IsFalling, World}
use Rattle.rh_world.specs.World.Cell.{plain, mark, desc}
use Rattle.rh_world.specs.World.Control.{unused, undecided, succeeded, withdrawn, failed}
use Rattle.rh_world.specs.Acts.{cells_after}
use Rattle.rh_world.specs.Logical.{StandsFor, entry_value}
use Rattle.rh_world.specs.Sides.{AtRest, Side}
use Rattle.rh_words.specs.declared.shape.Shape.{Shape}
use Rattle.rh_words.specs.Parts.{cell_count, word_count}
use Rattle.rh_words.specs.View.{View, new_view}
use Rattle.rh_words.specs.Words.{IsPlain}
use Rattle.rh_rule.specs.Core.{Core}
use Rattle.rh_rule.specs.Represents.{IsCell}
use Rattle.rh_rule.specs.Rest.{AllRest}
use Rattle.rh_rule.proofs.Telling.{tells}
use Rattle.rh_carrier.specs.Relies.{Relies, Serves, Shows}
use Rattle.rh_carrier.proofs.Relying.{workers_may_rely}
use Rattle.rh_carrier.specs.Own.{IsClear}
use Rattle.rh_worker.specs.Worker.{IsWorker, Stays}
use Rattle.rh_worker.specs.declared.stage.KeyStage.{KeyStage}
use Rattle.rh_order.specs.Claimed.{claimed}
use Rattle.rh_order.proofs.Saying.{logical_words, words_lead_inside}
use Rattle.rh_order.proofs.Standing.{run_moment}
use Rattle.rh_order.specs.Laws.{MomentSpec}
use Rattle.rh_order.specs.History.{history}
use Rattle.rh_turns.specs.declared.hand.Hand.{Hand}
use Rattle.rh_turns.specs.declared.hand.Share.{Share}
use Rattle.rh_turns.specs.declared.hand.Share.TheVariants.{Piece, Claims}
use Rattle.rh_turns.specs.Hands.{HasClaimed, HasNext, IsFinished, IsHand, IsIdle, IsShare, IsSpent, keys_for, share_keys, position_of, positions, view_of}
use Rattle.rh_turns.specs.Readable.{AreWorkers, IsReadable}
use Rattle.rh_turns.specs.Game.{AllStopped, Game, Plays, keep, keys_at, run_of}
use Rattle.rh_turns.proofs.AtHands.{at_hand_is, first_of_all}

-- ---- how many keys are done

-- of falling numbers so many at most are below n
few_below : (n c : ℕ) (xs : List ℕ) → IsFalling xs → ((m : ℕ) → In m xs → m < n → m < c) → length (filter (λ m. nat_lt m n) xs) ≤ c
few_below n c [] falls below = omega arith
few_below n c (x ∷ xs) falls below =
    go (nat_lt x n) refl (few_below n x xs falls.1 (λ m i l. falls.0 m i)) (few_below n c xs falls.1 (λ m i l. below m (inr i) l))
  where
    go : (b : Bool) → nat_lt x n ≡ b → length (filter (λ m. nat_lt m n) xs) ≤ x → length (filter (λ m. nat_lt m n) xs) ≤ c
        → length (cond b (x ∷ filter (λ m. nat_lt m n) xs) (filter (λ m. nat_lt m n) xs)) ≤ c
    go true is less rest = let here : x < c = below x (inl refl) (ltb-true x n is) in omega (arith, less, here)
    go false is less rest = rest

few_claimed : (z : Shape) (v : View) → IsFalling v.side.claims → length (claimed z v) ≤ z.keys
few_claimed z v falls =
    let few : length (filter (λ m. nat_lt m z.keys) v.side.claims) ≤ z.keys = few_below z.keys z.keys v.side.claims falls (λ m i l. l) in
    let same : length (claimed z v) ≡ length (filter (λ m. nat_lt m z.keys) v.side.claims) = length-reverse (filter (λ m. nat_lt m z.keys) v.side.claims) in
    omega (arith, few, same)

-- it has claimed those that it has done, and one more while it is at that key
pub busy_claims : (z : Shape) (h : Hand) (last : ℕ) → (claimed z (view_of h) ≡ positions z h ++ last ∷ []) × (length (positions z h) ≡ h.done) → length (claimed z (view_of h)) ≡ h.done + 1
busy_claims z h last b = ap length b.0 ∙ length_push (positions z h) last ∙ ap (λ (n : ℕ). n + 1) b.1

pub done_claimed : (z : Shape) (h : Hand) (last : ℕ) (ended : Bool) → HasClaimed z h last ended → h.done ≤ length (claimed z (view_of h))
done_claimed z h last ended claims = ⊎_elim
    (λ (idle : IsIdle h). let size : length (claimed z (view_of h)) ≡ h.done = claims.idle idle in omega (arith, size))
    (λ b. let size : length (claimed z (view_of h)) ≡ h.done + 1 = busy_claims z h last (b.0, b.1) in omega (arith, size)) claims.busy

done_in : (z : Shape) (keys : List ℕ) (h : Hand) (s : Share) → IsFalling (view_of h).side.claims → IsShare z keys h s → h.done ≤ length keys
done_in z keys h (Piece first end) falls o = omega (arith, o.0, o.1)
done_in z keys h (Claims last ended) falls o =
    let most : length (claimed z (view_of h)) ≤ z.keys = few_claimed z (view_of h) falls in
    let done : h.done ≤ length (claimed z (view_of h)) = done_claimed z h last ended o.1 in
    let long : z.keys ≡ length keys = o.0 in
    omega (arith, most, done, long)

-- ---- its keys

-- those that it may come to do are of the list
keys_from : (z : Shape) (keys : List ℕ) (h : Hand) (s : Share) (k : ℕ) → IsShare z keys h s → Contains (share_keys keys s) k → Contains keys k
keys_from z keys h (Piece first end) k o has =
    let i : ℕ = has.0 in
    let size : length (map (slice_index keys) (range_with_len first (end - first))) ≡ end - first = length-map-range_with_len (slice_index keys) first (end - first) in
    let inside : i < end - first = omega (arith, has.1, size) in
    let is : slice_index keys (first + i) ≡ k = sym (get_or-map-range_with_len (slice_index keys) first (end - first) i (first + i) k inside refl) ∙ has.2 in
    subst (Contains keys) is (Contains-get_or keys (first + i) 0 (omega (arith, inside, o.1)))
keys_from z keys h (Claims last ended) k o has = has

-- the next one is among them
pub next_among : (keys : List ℕ) (s : Share) (done : ℕ) → HasNext s done → position_of s done < length keys → Contains (share_keys keys s) (slice_index keys (position_of s done))
next_among keys (Piece first end) done next within =
    let size : length (map (slice_index keys) (range_with_len first (end - first))) ≡ end - first = length-map-range_with_len (slice_index keys) first (end - first) in
    let inside : done < end - first = omega (arith, next) in
    subst (Contains (map (slice_index keys) (range_with_len first (end - first)))) (get_or-map-range_with_len (slice_index keys) first (end - first) done (first + done) 0 inside refl)
    (Contains-get_or (map (slice_index keys) (range_with_len first (end - first))) done 0 (omega (arith, inside, size)))
next_among keys (Claims last ended) done next within = Contains-get_or keys last 0 within

-- ---- a worker that stopped

module _ (z : Shape) (h : Hand) (worker : IsWorker z h.worker) where
  stays_at : (p : KeyStage) → h.worker.stage ≡ p → Stays z (view_of h) h.worker.kind h.worker.key h.worker.buffer h.worker.machine p
  stays_at p e = subst (λ (q : KeyStage). Stays z (view_of h) h.worker.kind h.worker.key h.worker.buffer h.worker.machine q) e worker.stays

  stopped_clear : IsFinished h ⊎ IsSpent h → IsClear (view_of h)
  stopped_clear o = ⊎_elim (λ (f : IsFinished h). stays_at _ f.0) (λ (s : IsSpent h). (stays_at _ s).0) o

clear_rests : (v : View) → IsClear v → AtRest v.side
clear_rests v c = record { closed = c.own.current; settled = c.owes.settled; paid = c.owes.paid }

-- ---- what a cell stands for

plain_value : (r : Control) (a b : ℕ) → IsPlain a → IsPlain b → IsPlain (entry_value r a b)
plain_value unused a b p q = p
plain_value undecided a b p q = p
plain_value succeeded a b p q = q
plain_value withdrawn a b p q = p
plain_value (failed e by) a b p q = p

module _ (w : World) (z : Shape) (words : List ℕ) (keep : ℕ → View) (core : Core w z words keep) where
  stands_plain : (c v : ℕ) (k : Cell) → w.cell c ≡ k → IsCell z k → StandsFor w c k v → IsPlain v
  stands_plain c v (plain u) e is so = subst IsPlain so is
  stands_plain c v (mark x) e is so =
      let opened = core.rule.rows.used x (core.rule.rows.marks c x e).used in
      subst IsPlain so ((core.represents.rows.entries (w.mark_desc x) opened.0).plain_olds (w.mark_entry x) opened.1)
  stands_plain c v (desc d) e is so =
      let row = core.represents.rows.entries d (core.rule.rows.descs c d e).opened in
      subst IsPlain so.value (plain_value (w.control d) (w.old d so.entry) (w.new d so.entry) (row.plain_olds so.entry so.within) (row.plain_news so.entry so.within))

  pub cells_plain : (c : ℕ) → c < cell_count z → IsPlain (cells_after w w.act_count c)
  cells_plain c inside = stands_plain c (cells_after w w.act_count c) (w.cell c) refl (core.represents.cells.standing c inside) ((tells w z words keep core).order.now c)

-- ---- a game

module _ (g : Game) (plays : Plays g) where
  abbrev z : Shape
  z = g.shape

  pub in_hands : (v : ℕ) → v < z.workers → v < length g.hands
  in_hands v mine = omega (arith, mine, plays.workers)

  pub some_hand : Hand
  some_hand = first_of_all g.hands (in_hands 0 g.shape.some_worker)

  pub hand_of : (v : ℕ) → v < z.workers → (d : Hand) → IsHand z g.kind g.keys (get_or g.hands v d)
  hand_of v mine d = plays.hands v d (in_hands v mine)

  pub kind_of_hand : (v : ℕ) → v < z.workers → (d : Hand) → (get_or g.hands v d).worker.kind ≡ g.kind
  kind_of_hand v mine d = (hand_of v mine d).kind_is

  pub kept_at : (v : ℕ) → v < z.workers → (d : Hand) → keep g v ≡ view_of (get_or g.hands v d)
  kept_at v mine d = at_hand_is view_of (new_view [] 0) g.hands v d (in_hands v mine)

  pub falling : (v : ℕ) → v < z.workers → IsFalling (keep g v).side.claims
  falling v mine =
      let run = plays.running in
      let world_tells = tells run.world z g.words (keep g) run.core in
      subst IsFalling (sym (ap (λ (s : Side). s.claims) (world_tells.kept v mine))) (world_tells.shared.once v)

  pub plays_sized : length g.words ≡ word_count z
  plays_sized = plays.running.core.represents.sized

  pub plays_workers : AreWorkers g.hands
  plays_workers = record {
    each = λ v d l. (z, (plays.hands v d l).worker);
    numbered = λ v d l.
        let mine : v < z.workers = omega (arith, l, plays.workers) in
        ap (λ (x : View). x.worker) (sym (kept_at v mine d)) ∙ (plays.running.core.represents.kept v mine).worker;
  }

  -- each worker may take a turn
  pub plays_relies : (v : ℕ) → v < z.workers → (d : Hand) → Relies Shows Serves z g.words (view_of (get_or g.hands v d))
  plays_relies v mine d = subst (Relies Shows Serves z g.words) (kept_at v mine d) (workers_may_rely plays.running.world z g.words (keep g) v plays.running.core mine)

  pub plays_done : (v : ℕ) → v < z.workers → (d : Hand) → (get_or g.hands v d).done ≤ length g.keys
  plays_done v mine d =
      let h : Hand = get_or g.hands v d in
      done_in z g.keys h h.share (subst (λ (x : View). IsFalling x.side.claims) (kept_at v mine d) (falling v mine)) (hand_of v mine d).share

  -- where all have stopped all are at rest
  pub plays_stopped : AllStopped g → AllRest z (keep g)
  plays_stopped stopped = record {
    still = λ v mine. (plays.running.core.represents.kept v mine).still;
    rest = λ v mine.
        let h : Hand = get_or g.hands v some_hand in
        subst (λ (x : View). AtRest x.side) (sym (kept_at v mine some_hand))
        (clear_rests (view_of h) (stopped_clear z h (hand_of v mine some_hand).worker (stopped v some_hand (in_hands v mine))));
  }

  -- the words and what the workers hold tell what each cell stands for
  pub plays_readable : (c : ℕ) → c < cell_count z → IsReadable z g.words (keep g) c
  plays_readable c inside =
      let run = plays.running in
      record {
        reads = words_lead_inside run.world z g.words (keep g) c run.core inside;
        value = λ word stands. subst IsPlain (sym (logical_words run.world z g.words (keep g) c word run.core inside stands)) (cells_plain run.world z g.words (keep g) run.core c inside);
      }

  pub keys_among : (v k : ℕ) → v < z.workers → Contains (keys_at g v) k → Contains g.keys k
  keys_among v k mine has =
      let h : Hand = get_or g.hands v some_hand in
      keys_from z g.keys h h.share k (hand_of v mine some_hand).share
      (subst (λ (l : List ℕ). Contains l k) (at_hand_is (keys_for g.keys) [] g.hands v some_hand (in_hands v mine)) has)

  -- at each moment the cells stand for the layout of the set after some of the keys
  pub plays_moment : MomentSpec (run_of g plays.own_answers) (keys_of g.opening) plays.running.before (history plays.running.world)
  plays_moment = run_moment (run_of g plays.own_answers) (keys_of g.opening) g.keys plays.running plays.opening keys_among plays.room
