-- A shared list that the workers have claimed to its end, and what they made of it.
use Rattle.std.proofs.Common.{◌≡◌, ◌≢◌, ℕ, ◌<◌, ◌≤◌, inl, inr, ⊎_elim, refl, sym, ap, ◌∙◌, subst, arith, Bool, true, false, true≢false, cond, List, [], ◌∷◌, ◌++◌, length, length-append, get_or, map, filter, min, replicate, reverse}
use mathlib.Core.List.{reverse-cons}
use Rattle.std.specs.Prelude.{nat_lt, ◌^◌}
use Rattle.std.specs.List.{AllPairs, Contains, slice_index}
use Rattle.std.specs.FinSet as set
use Rattle.std.proofs.lemmas.Bool.Decides.{nat_tests}
use Rattle.std.proofs.lemmas.List.{get_or-map, length-map, length-replicate}
use Rattle.std.proofs.lemmas.List.Elements.{Contains-append_cases, Contains-append_left, Contains-append_right, Contains-get_or}
use Rattle.std.proofs.lemmas.List.FromFn.{length-map-range_with_len}
use Rattle.std.proofs.lemmas.List.Quantifiers.{all_pairs_push}
use Rattle.rh_layout.specs.Layout.{Keys, Layout}
use Rattle.rh_ledger.specs.declared.tally.Kind.{Kind}
use Rattle.rh_ledger.specs.declared.tally.Kind.TheVariants.{Insert, Remove, Ask}
use Rattle.rh_ledger.specs.declared.tally.Tally.{Tally}
use Rattle.rh_ledger.specs.Phase.{set_after}
use Rattle.rh_world.specs.World.{In, IsFalling, World}
use Rattle.rh_world.specs.Sides.{Side}
use Rattle.rh_words.specs.declared.shape.Shape.{Shape}
use Rattle.rh_words.specs.View.{View}
use Rattle.rh_rule.specs.Core.{Core}
use Rattle.rh_rule.specs.Rest.{WorldTells}
use Rattle.rh_rule.proofs.Telling.{tells}
use Rattle.rh_acts.specs.Shared.{IsSharedOut, pieces_at}
use Rattle.rh_acts.specs.Workers.{LeavesRoom, joined, piece}
use Rattle.rh_acts.proofs.ActLemmas.{contains_cases, contains_head, contains_none}
use Rattle.rh_acts.proofs.FoldLemmas.{tally_of_ask}
use Rattle.rh_acts.proofs.SharedLaws.{shared_list_is_one_list}
use Rattle.rh_order.specs.Laws.{RunSharedEnds}
use Rattle.rh_order.specs.Claimed.{FoundEnd, all_claimed, claimed}
use Rattle.rh_order.specs.Words.{cells_held}
use Rattle.rh_order.proofs.Ending.{ends, piece_of}

-- ---- the numbers of a falling list that pass a test, the other way round

module _ (test : ℕ → Bool) where
  abbrev kept : List ℕ → List ℕ
  kept xs = reverse (filter test xs)

  turned : (b : Bool) (x : ℕ) (xs : List ℕ) → reverse (cond b (x ∷ filter test xs) (filter test xs)) ≡ cond b (kept xs ++ x ∷ []) (kept xs)
  turned true x xs = reverse-cons x (filter test xs)
  turned false x xs = refl

  has : (xs : List ℕ) (i : ℕ) → In i xs → test i ≡ true → Contains (kept xs) i
  has [] i h is = absurd h
  has (x ∷ xs) i h is = subst (λ (l : List ℕ). Contains l i) (sym (turned (test x) x xs)) (go (test x) refl (λ j. has xs i j is))
    where
      go : (b : Bool) → test x ≡ b → (In i xs → Contains (kept xs) i) → Contains (cond b (kept xs ++ x ∷ []) (kept xs)) i
      go true was later = ⊎_elim
          (λ (e : i ≡ x). Contains-append_right (kept xs) (x ∷ []) i (subst (Contains (x ∷ [])) (sym e) (contains_head x [])))
          (λ j. Contains-append_left (kept xs) (x ∷ []) i (later j)) h
      go false was later = ⊎_elim (λ (e : i ≡ x). absurd (true≢false (sym is ∙ ap test e ∙ was))) later h

  pub from : (xs : List ℕ) (i : ℕ) → Contains (kept xs) i → In i xs × (test i ≡ true)
  from [] i h = absurd (contains_none i h)
  from (x ∷ xs) i h = go (test x) refl (subst (λ (l : List ℕ). Contains l i) (turned (test x) x xs) h) (λ k. let got = from xs i k in (inr got.0, got.1))
    where
      go : (b : Bool) → test x ≡ b → Contains (cond b (kept xs ++ x ∷ []) (kept xs)) i → (Contains (kept xs) i → In i (x ∷ xs) × (test i ≡ true)) → In i (x ∷ xs) × (test i ≡ true)
      go true was k later = ⊎_elim later
          (λ last. ⊎_elim (λ (e : x ≡ i). (inl (sym e), ap test (sym e) ∙ was)) (λ none. absurd (contains_none i none)) (contains_cases x i [] last))
          (Contains-append_cases (kept xs) (x ∷ []) i k)
      go false was k later = later k

  pub rising : (xs : List ℕ) → IsFalling xs → AllPairs (λ i j. i < j) (kept xs)
  rising [] falls = λ i j d l inside. absurd (omega (arith, inside))
  rising (x ∷ xs) falls = subst (AllPairs (λ i j. i < j)) (sym (turned (test x) x xs)) (go (test x) (rising xs falls.1))
    where
      go : (b : Bool) → AllPairs (λ i j. i < j) (kept xs) → AllPairs (λ i j. i < j) (cond b (kept xs ++ x ∷ []) (kept xs))
      go true rest = all_pairs_push (λ i j. i < j) (kept xs) x rest (λ k d l. falls.0 (get_or (kept xs) k d) (from xs (get_or (kept xs) k d) (Contains-get_or (kept xs) k d l)).0)
      go false rest = rest

-- ---- what was claimed

in_list : (z : Shape) (n : ℕ) → n < z.keys → nat_lt n z.keys ≡ true
in_list z n l = grind (arith, nat_tests)

is_in_list : (z : Shape) (n : ℕ) → nat_lt n z.keys ≡ true → n < z.keys
is_in_list z n e = grind (arith, nat_tests)

joined_size : (f : ℕ → ℕ) (xss : List (List ℕ)) → length (joined (map (map f) xss)) ≡ length (joined xss)
joined_size f [] = refl
joined_size f (xs ∷ xss) =
    let rest : length (joined (map (map f) xss)) ≡ length (joined xss) = joined_size f xss in
    let first : length (map f xs) ≡ length xs = length-map xs f in
    omega (arith, length-append (map f xs) (joined (map (map f) xss)), length-append xs (joined xss), first, rest)

module _ (w : World) (z : Shape) (words : List ℕ) (keep : ℕ → View) (core : Core w z words keep) where
  abbrev claims : List (List ℕ)
  claims = all_claimed z keep

  world_tells : WorldTells w z keep core.side
  world_tells = tells w z words keep core

  of_world : (v : ℕ) → v < z.workers → (keep v).side.claims ≡ (core.side v).claims
  of_world v mine = ap (λ (s : Side). s.claims) (world_tells.kept v mine)

  pub claims_size : length claims ≡ z.workers
  claims_size = length-map-range_with_len (λ v. claimed z (keep v)) 0 z.workers

  pub claims_at : (v : ℕ) → v < z.workers → piece claims v ≡ claimed z (keep v)
  claims_at v mine = piece_of (λ u. claimed z (keep u)) z.workers v mine

  -- a place was claimed so
  claims_it : (v i : ℕ) → v < z.workers → Contains (piece claims v) i → In i (core.side v).claims × (i < z.keys)
  claims_it v i mine h =
      let got = from (λ n. nat_lt n z.keys) (keep v).side.claims i (subst (λ (l : List ℕ). Contains l i) (claims_at v mine) h) in
      (subst (In i) (of_world v mine) got.0, is_in_list z i got.1)

  it_is_claimed : (v i : ℕ) → v < z.workers → In i (core.side v).claims → i < z.keys → Contains (piece claims v) i
  it_is_claimed v i mine h inside =
      subst (λ (l : List ℕ). Contains l i) (sym (claims_at v mine)) (has (λ n. nat_lt n z.keys) (keep v).side.claims i (subst (In i) (sym (of_world v mine)) h) (in_list z i inside))

  -- each place was that lies below the counter
  shared_so_far : IsSharedOut (min w.counter z.keys) claims
  shared_so_far =
      let m = core.represents in
      let shared = world_tells.shared in
      record {
        all = λ i inside.
            let one = (shared.found i (omega (arith, inside, m.keys))).1 (omega (arith, inside)) in
            let mine : one.0 < z.workers = omega (arith, m.workers, one.1) in
            (one.0, omega (arith, claims_size), it_is_claimed one.0 i mine one.2 (omega (arith, inside)));
        below = λ v i l h.
            let it = claims_it v i (omega (arith, claims_size)) h in
            let low : i < w.counter = shared.below v i it.0 in
            omega (arith, it.1, low);
        one_worker = λ u v i k l h j. shared.one_worker u v i (claims_it u i (omega (arith, claims_size)) h).0 (claims_it v i (omega (arith, claims_size)) j).0;
        once = λ v l.
            let mine : v < z.workers = omega (arith, claims_size) in
            let rise = rising (λ n. nat_lt n z.keys) (keep v).side.claims (subst IsFalling (sym (of_world v mine)) (shared.once v)) in
            subst (AllPairs (λ i j. i ≢ j)) (sym (claims_at v mine)) (λ i j d less inside same. let r = rise i j d less inside in absurd (omega (arith, same)));
      }

  -- each place of the list was, since one Claim found the end
  pub shared_out : ((v : ℕ) → v < z.workers → FoundEnd z (keep v)) → IsSharedOut z.keys claims
  shared_out ended =
      let past = ended 0 z.some_worker in
      let counter : past.0 < w.counter = world_tells.shared.below 0 past.0 (subst (In past.0) (of_world 0 z.some_worker) past.1) in
      let beyond : z.keys ≤ past.0 = past.2 in
      let all : min w.counter z.keys ≡ z.keys = omega (arith, counter, beyond) in
      subst (λ (n : ℕ). IsSharedOut n claims) all shared_so_far

  -- no more places were claimed than the list has
  pub claims_few : (S : Keys) → length (joined claims) ≤ z.keys
  claims_few S =
      let n : ℕ = min w.counter z.keys in
      let list : List ℕ = replicate n 0 in
      let size : length list ≡ n = length-replicate n 0 in
      let shared : IsSharedOut (length list) claims = subst (λ (k : ℕ). IsSharedOut k claims) (sym size) shared_so_far in
      let one = (shared_list_is_one_list Ask S list claims shared).1 in
      let reads : length (joined (pieces_at list claims)) ≡ length list = ap (λ (t : Tally). t.read) (tally_of_ask S (joined (pieces_at list claims)) ∙ one ∙ sym (tally_of_ask S list)) in
      let same : length (joined (pieces_at list claims)) ≡ length (joined claims) = joined_size (slice_index list) claims in
      omega (arith, reads, same, size)

-- ---- what was made of the list

room_same : (kind : Kind) (b : ℕ) (S : Keys) (list keys : List ℕ) → set_after kind S keys ≡ set_after kind S list → LeavesRoom kind b S list → LeavesRoom kind b S keys
room_same Insert b S list keys same room = subst (λ (T : Keys). set.len T < 2 ^ b) (sym same) room
room_same Remove b S list keys same room = tt
room_same Ask b S list keys same room = tt

pub run_shared_ends : RunSharedEnds
run_shared_ends r S list run rest layout long found all_done room =
    let claims = all_claimed r.shape r.keep in
    let pieces = pieces_at list claims in
    let size = claims_size run.world r.shape r.words r.keep run.core in
    let at = claims_at run.world r.shape r.words r.keep run.core in
    let shared : IsSharedOut (length list) claims = subst (λ (n : ℕ). IsSharedOut n claims) (sym long) (shared_out run.world r.shape r.words r.keep run.core found) in
    let one = shared_list_is_one_list r.kind S list claims shared in
    let long_pieces : length pieces ≡ r.shape.workers = length-map claims (map (slice_index list)) ∙ size in
    let all_pieces : (v : ℕ) → v < r.shape.workers → r.done v ≡ piece pieces v =
    λ v mine. all_done v mine ∙ ap (map (slice_index list)) (sym (at v mine)) ∙ sym (get_or-map (map (slice_index list)) claims v [] [] (omega (arith, size))) in
    let end = ends r run rest S pieces layout long_pieces all_pieces (room_same r.kind r.shape.bits S list (joined pieces) one.0 room) in
    record { layout = subst (λ (T : Keys). Layout (cells_held r.shape r.words) r.shape.bits T) one.0 end.layout; tally = end.tally ∙ one.1 }
