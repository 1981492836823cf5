-- A worker claims its next key, and comes as far as its hand says.
use Rattle.std.proofs.Common.{◌≡◌, ◌≢◌, ℕ, ◌+◌, ◌<◌, ◌≤◌, ⊎_elim, Some, None, Bool, true, false, true≢false, cond, min, refl, sym, ◌∙◌, ap, subst, arith, List, [], ◌∷◌, ◌++◌, length, length-set, filter, reverse, set, zero, suc, get_or}
use mathlib.Core.List.{reverse-cons}
use Rattle.std.specs.Prelude.{◌-◌, ◌^◌, ◌↔◌, nat_lt, count_by, slice_index, slice_index_or}
use Rattle.std.specs.List.{Contains}
use Rattle.std.proofs.lemmas.Bool.Decides.{nat_tests}
use Rattle.std.proofs.lemmas.List.{append-nil, length_push, get_or-set_other, get_or-set_same, map_push}
use Rattle.std.proofs.lemmas.List.Elements.{Contains-append_cases, Contains-append_left, Contains-append_right}
use Rattle.std.proofs.lemmas.List.Sums.{sum_by_push}
use Rattle.rh_ledger.specs.declared.tally.Kind.{Kind}
use Rattle.rh_world.proofs.Updated.{same_nat}
use Rattle.rh_acts.proofs.ActLemmas.{contains_cases, contains_head, contains_none}
use Rattle.rh_words.specs.declared.shape.Shape.{Shape}
use Rattle.rh_words.specs.View.{View}
use Rattle.rh_words.specs.Steps.{Allowed, Step, noted}
use Rattle.rh_rule.specs.Sound.{Sound}
use Rattle.rh_order.specs.Claimed.{claimed}
use Rattle.rh_order.specs.Laws.{furthered}
use Rattle.rh_order.specs.Run.{Progress, ProgressInvariant}
use Rattle.rh_order.proofs.Stepping.{worker_claims}
use Rattle.rh_threads.specs.Keys.{Furthers}
use Rattle.rh_threads.specs.Hands.{KeyAnswer, Past, HandStands, answer_at, keys_done, left_over, positions_of, progress_by, without_positions, HasClaimed}
use Rattle.rh_threads.specs.declared.hand.Hand.{Hand}
use Rattle.rh_shared.specs.declared.seat.Seat.{Seat}
use Rattle.rh_shared.specs.declared.table.Table.{Table}
use Rattle.rh_threads.specs.Crew.{WorksOn}
use Rattle.rh_threads.proofs.Keying.{stays_on}
use Rattle.rh_world.specs.World.{In}
use Rattle.rh_carrier.specs.Own.{IsClear}
use Rattle.rh_carrier.specs.Relies.{Knows}

-- ---- the positions that it claimed

claims_turn : (z : Shape) (word : ℕ) (claims : List ℕ) (b : Bool) → nat_lt word z.keys ≡ b
    → reverse (filter (λ n. nat_lt n z.keys) (word ∷ claims)) ≡ cond b (reverse (filter (λ n. nat_lt n z.keys) claims) ++ word ∷ []) (reverse (filter (λ n. nat_lt n z.keys) claims))
claims_turn z word claims b is = ap (λ (t : Bool). reverse (cond t (word ∷ filter (λ n. nat_lt n z.keys) claims) (filter (λ n. nat_lt n z.keys) claims))) is ∙ go b
  where
    go : (b : Bool) → reverse (cond b (word ∷ filter (λ n. nat_lt n z.keys) claims) (filter (λ n. nat_lt n z.keys) claims)) ≡ cond b (reverse (filter (λ n. nat_lt n z.keys) claims) ++ word ∷ []) (reverse (filter (λ n. nat_lt n z.keys) claims))
    go true = reverse-cons word (filter (λ n. nat_lt n z.keys) claims)
    go false = refl

one_more : (z : Shape) (v next : View) (word : ℕ) → next.side.claims ≡ word ∷ v.side.claims → word < z.keys → claimed z next ≡ claimed z v ++ word ∷ []
one_more z v next word more inside = ap (λ (l : List ℕ). reverse (filter (λ n. nat_lt n z.keys) l)) more ∙ claims_turn z word v.side.claims true (grind (arith, nat_tests))

no_more : (z : Shape) (v next : View) (word : ℕ) → next.side.claims ≡ word ∷ v.side.claims → z.keys ≤ word → claimed z next ≡ claimed z v
no_more z v next word more beyond = ap (λ (l : List ℕ). reverse (filter (λ n. nat_lt n z.keys) l)) more ∙ claims_turn z word v.side.claims false (grind (arith, nat_tests))

same_claimed : (z : Shape) (v next : View) → next.side.claims ≡ v.side.claims → claimed z next ≡ claimed z v
same_claimed z v next same = ap (λ (l : List ℕ). reverse (filter (λ n. nat_lt n z.keys) l)) same

-- ---- an answer more

marks_more : (found : List Bool) (answers : List KeyAnswer) (position : ℕ) (answer : Bool) (p : ℕ) → p < length found → ((slice_index_or found p false ≡ true) ↔ Contains answers (answer_at p true))
    → (slice_index_or (cond answer (set found position true) found) p false ≡ true) ↔ Contains (answers ++ answer_at position answer ∷ []) (answer_at p true)
marks_more found answers position true p inside was = (there, back)
  where
    there : slice_index_or (set found position true) p false ≡ true → Contains (answers ++ answer_at position true ∷ []) (answer_at p true)
    there is = ⊎_elim
        (λ (e : p ≡ position). Contains-append_right answers (answer_at position true ∷ []) (answer_at p true) (subst (λ (q : ℕ). Contains (answer_at position true ∷ []) (answer_at q true)) (sym e) (contains_head (answer_at position true) [])))
        (λ (ne : p ≢ position). Contains-append_left answers (answer_at position true ∷ []) (answer_at p true) (was.0 (sym (get_or-set_other found position p true false ne) ∙ is)))
        (same_nat p position)

    here : p ≡ position → slice_index_or (set found position true) p false ≡ true
    here e = ap (λ (q : ℕ). slice_index_or (set found position true) q false) e ∙ get_or-set_same found position true false (subst (λ (q : ℕ). q < length found) e inside)

    back : Contains (answers ++ answer_at position true ∷ []) (answer_at p true) → slice_index_or (set found position true) p false ≡ true
    back h = ⊎_elim
        (λ (old : Contains answers (answer_at p true)). ⊎_elim here (λ (ne : p ≢ position). get_or-set_other found position p true false ne ∙ was.1 old) (same_nat p position))
        (λ (new : Contains (answer_at position true ∷ []) (answer_at p true)). ⊎_elim
        (λ (e : answer_at position true ≡ answer_at p true). here (sym (ap (λ (a : KeyAnswer). a.position) e)))
        (λ none. absurd (contains_none (answer_at p true) none)) (contains_cases (answer_at position true) (answer_at p true) [] new))
        (Contains-append_cases answers (answer_at position true ∷ []) (answer_at p true) h)
marks_more found answers position false p inside was = (
  (λ is. Contains-append_left answers (answer_at position false ∷ []) (answer_at p true) (was.0 is)),
  (λ h. ⊎_elim was.1
      (λ (new : Contains (answer_at position false ∷ []) (answer_at p true)). ⊎_elim
      (λ (e : answer_at position false ≡ answer_at p true). absurd (true≢false (sym (ap (λ (a : KeyAnswer). a.answer) e))))
      (λ none. absurd (contains_none (answer_at p true) none)) (contains_cases (answer_at position false) (answer_at p true) [] new))
      (Contains-append_cases answers (answer_at position false ∷ []) (answer_at p true) h)),
)

marked_long : (found : List Bool) (position : ℕ) (answer : Bool) → length (cond answer (set found position true) found) ≡ length found
marked_long found position true = length-set found position true
marked_long found position false = refl

counts_more : (answers : List KeyAnswer) (position old new : ℕ) (answer : Bool) → old ≡ min (count_by (λ so. so) (without_positions answers)) (2 ^ 64 - 1) → new ≡ cond answer (min (old + 1) (2 ^ 64 - 1)) old
    → new ≡ min (count_by (λ so. so) (without_positions (answers ++ answer_at position answer ∷ []))) (2 ^ 64 - 1)
counts_more answers position old new answer was is = go answer is more
  where
    more : count_by (λ so. so) (without_positions (answers ++ answer_at position answer ∷ [])) ≡ count_by (λ so. so) (without_positions answers) + cond answer 1 0
    more = ap (count_by (λ so. so)) (map_push (λ (a : KeyAnswer). a.answer) answers (answer_at position answer)) ∙ sum_by_push (λ (so : Bool). cond so 1 0) (without_positions answers) answer

    go : (b : Bool) → new ≡ cond b (min (old + 1) (2 ^ 64 - 1)) old → count_by (λ so. so) (without_positions (answers ++ answer_at position answer ∷ [])) ≡ count_by (λ so. so) (without_positions answers) + cond b 1 0
        → new ≡ min (count_by (λ so. so) (without_positions (answers ++ answer_at position answer ∷ []))) (2 ^ 64 - 1)
    go true i m = omega (arith, was, i, m)
    go false i m = omega (arith, was, i, m)

-- ---- how it goes on

module _ (z : Shape) (keys : List ℕ) (past : Past) (h then : Hand) (v next : View) (was : HandStands z keys past h v) where
  of_kind : (k : Kind) (p : Progress) → k ≡ h.kind → ProgressInvariant z h.kind p → ProgressInvariant z k p
  of_kind k p same is = subst (λ (q : Kind). ProgressInvariant z q p) (sym same) is

  -- with what it has done so far
  abbrev so_far : View → Progress
  so_far x = progress_by keys past x was.answers

  -- with nothing done
  stands_with : then.kind ≡ h.kind → ProgressInvariant z h.kind (so_far next) → next.opening ≡ v.opening
      → claimed z next ≡ positions_of was.answers ++ left_over then.has_key then.position → then.done ≡ h.done → then.changed ≡ h.changed → then.found.items ≡ h.found.items → HandStands z keys past then next
  stands_with kind doing opening claims done changed found = record {
    kind_is = kind ∙ was.kind_is;
    answers = was.answers;
    doing = of_kind then.kind (so_far next) kind doing;
    answered = record {
      claimed_are = claims;
      done_are = done ∙ was.answered.done_are;
      counts = changed ∙ was.answered.counts;
      marks = subst (λ (l : List Bool). (p : ℕ) → p < length l → (slice_index_or l p false ≡ true) ↔ Contains was.answers (answer_at p true)) (sym found) was.answered.marks;
    };
    opening = opening ∙ was.opening;
    long = ap length found ∙ was.long;
  }

  -- a position was claimed, or the end of the list
  module _ (word : ℕ) (allowed : Allowed z v Step.claims) (view_is : next ≡ noted z v Step.claims word) (sound : Sound z next) (kind : then.kind ≡ h.kind) (no_key : h.has_key ≡ false) (done : then.done ≡ h.done) (changed : then.changed ≡ h.changed) (found : then.found.items ≡ h.found.items) where
    claims_are : next.side.claims ≡ word ∷ v.side.claims
    claims_are = ap (λ (x : View). x.side.claims) view_is

    none_left : claimed z v ≡ positions_of was.answers
    none_left = was.answered.claimed_are ∙ ap (λ (b : Bool). positions_of was.answers ++ left_over b h.position) no_key ∙ append-nil (positions_of was.answers)

    doing_then : ProgressInvariant z h.kind (so_far next)
    doing_then = worker_claims h.kind z (so_far v) word next allowed view_is sound was.doing

    pub stands_claimed : word < z.keys → left_over then.has_key then.position ≡ word ∷ [] → HandStands z keys past then next
    stands_claimed inside left = stands_with kind doing_then (ap (λ (x : View). x.opening) view_is)
        (one_more z v next word claims_are inside ∙ ap (λ (l : List ℕ). l ++ word ∷ []) none_left ∙ ap (λ (l : List ℕ). positions_of was.answers ++ l) (sym left)) done changed found

    pub stands_ended : z.keys ≤ word → left_over then.has_key then.position ≡ [] → HandStands z keys past then next
    stands_ended beyond left = stands_with kind doing_then (ap (λ (x : View). x.opening) view_is)
        (no_more z v next word claims_are beyond ∙ none_left ∙ sym (append-nil (positions_of was.answers)) ∙ ap (λ (l : List ℕ). positions_of was.answers ++ l) (sym left)) done changed found

  -- the steps for its key were made
  module _ (key : ℕ) (among : Contains keys key) (is : slice_index keys h.position ≡ key) (kind : then.kind ≡ h.kind) (claims : next.side.claims ≡ v.side.claims) (opening : next.opening ≡ v.opening) (has : h.has_key ≡ true) where
    left : left_over h.has_key h.position ≡ h.position ∷ []
    left = ap (λ (b : Bool). left_over b h.position) has

    pub stands_left : Furthers z h.kind key v next None → left_over then.has_key then.position ≡ h.position ∷ [] → then.done ≡ h.done → then.changed ≡ h.changed → then.found.items ≡ h.found.items → HandStands z keys past then next
    stands_left furthers leaves done changed found = stands_with kind
        (furthers (so_far v) among was.doing) opening
        (same_claimed z v next claims ∙ was.answered.claimed_are ∙ ap (λ (l : List ℕ). positions_of was.answers ++ l) (left ∙ sym leaves)) done changed found

    pub stands_done : (answer : Bool) → Furthers z h.kind key v next (Some answer) → then.has_key ≡ false → then.done ≡ min (h.done + 1) (2 ^ 64 - 1) → then.changed ≡ cond answer (min (h.changed + 1) (2 ^ 64 - 1)) h.changed
        → then.found.items ≡ cond answer (set h.found.items h.position true) h.found.items → HandStands z keys past then next
    stands_done answer furthers no_key done changed found = record {
      kind_is = kind ∙ was.kind_is;
      answers = answers;
      doing = of_kind then.kind (progress_by keys past next answers) kind
          (subst (λ (l : List ℕ). ProgressInvariant z h.kind (record (progress_by keys past next answers) { done = l })) (sym keys_are)
          (subst (λ (l : List Bool). ProgressInvariant z h.kind (record (furthered (so_far v) next key (Some answer)) { answers = l })) (sym (map_push (λ (a : KeyAnswer). a.answer) was.answers (answer_at h.position answer)))
          (furthers (so_far v) among was.doing)));
      answered = record {
        claimed_are = same_claimed z v next claims ∙ was.answered.claimed_are ∙ ap (λ (l : List ℕ). positions_of was.answers ++ l) left ∙ sym (map_push (λ (a : KeyAnswer). a.position) was.answers (answer_at h.position answer))
            ∙ sym (append-nil (positions_of answers)) ∙ ap (λ (b : Bool). positions_of answers ++ left_over b then.position) (sym no_key);
        done_are = let m = length_push was.answers (answer_at h.position answer) in let w = was.answered.done_are in omega (arith, m, w, done);
        counts = counts_more was.answers h.position h.changed then.changed answer was.answered.counts changed;
        marks = subst (λ (l : List Bool). (p : ℕ) → p < length l → (slice_index_or l p false ≡ true) ↔ Contains answers (answer_at p true)) (sym found)
            (λ p inside. let l : p < length h.found.items = let m = marked_long h.found.items h.position answer in omega (arith, inside, m) in marks_more h.found.items was.answers h.position answer p l (was.answered.marks p l));
      };
      opening = opening ∙ was.opening;
      long = ap length found ∙ marked_long h.found.items h.position answer ∙ was.long;
    }
      where
        answers : List KeyAnswer
        answers = was.answers ++ answer_at h.position answer ∷ []

        keys_are : keys_done keys answers ≡ keys_done keys was.answers ++ key ∷ []
        keys_are = map_push (λ (a : KeyAnswer). slice_index keys a.position) was.answers (answer_at h.position answer) ∙ ap (λ (k : ℕ). keys_done keys was.answers ++ k ∷ []) is

-- ---- a claim

pub may_claim : (z : Shape) (v : View) → IsClear v → Knows z v → ((n : ℕ) → In n v.side.claims → n < z.keys) → Allowed z v Step.claims
may_claim z v clear k below = record { worker = k.worker; still = k.still; step = record { closed = clear.own.current; keys = below } }

pub claims_below : (z : Shape) (v next : View) (word : ℕ) → next ≡ noted z v Step.claims word → word < z.keys → ((n : ℕ) → In n v.side.claims → n < z.keys)
    → (n : ℕ) → In n next.side.claims → n < z.keys
claims_below z v next word e less below n i = ⊎_elim (λ (is : n ≡ word). subst (λ (m : ℕ). m < z.keys) (sym is) less) (λ j. below n j) (subst (λ (x : View). In n x.side.claims) e i)

pub among : (keys : List ℕ) (n k : ℕ) → n < length keys → slice_index keys n ≡ k → Contains keys k
among keys n k inside is = (n, inside, here keys n k inside (sym is))
  where
    here : (l : List ℕ) (m q : ℕ) → m < length l → q ≡ get_or l m 0 → get_or l m q ≡ q
    here [] m q less is = absurd (omega arith)
    here (x ∷ xs) zero q less is = sym is
    here (x ∷ xs) (suc m) q less is = here xs m q (omega (arith, less)) is

pub claims_on : (z : Shape) (h then : Hand) (v next : View) → HasClaimed z h v → then.ended ≡ h.ended → next.side.claims ≡ v.side.claims → HasClaimed z then next
claims_on z h then v next was ended claims = record {
  below = λ e n i. was.below (sym ended ∙ e) n (subst (In n) claims i);
  ended = λ e. subst (λ (l : List ℕ). (n : ℕ) × In n l × (z.keys ≤ n)) (sym claims) (was.ended (sym ended ∙ e));
}

-- ---- one call after the other

pub works_on : {t : Table} {keys : List ℕ} {h i j : Hand} {s u w : Seat} → WorksOn t keys h s i u → WorksOn t keys i u j w → WorksOn t keys h s j w
works_on a b = record { stays = stays_on a.stays.same b.stays; hand = b.hand; stands = λ past was. b.stands past (a.stands past was) }
