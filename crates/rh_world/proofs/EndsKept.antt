-- The rule at the start, in a new round and at rest; what it says of acts, prefixes and claims.
use Rattle.std.proofs.Common.{◌≡◌, ◌≢◌, ℕ, zero, suc, ◌+◌, ◌<◌, ◌≤◌, Bool, true, false, cond, List, [], sym, refl, ap, ◌∙◌, subst, ⊎_elim, arith}
use native.Mathlib.Decide.{dec_lt}
use Rattle.rh_world.specs.World.{Cell, Control, HasFailed, In, Ref, World}
use Rattle.rh_world.specs.World.Cell.{desc, mark, plain}
use Rattle.rh_world.specs.World.Control.{failed}
use Rattle.rh_world.specs.Logical.{IsLogical, StandsFor, changed_by}
use Rattle.rh_world.specs.Facts.{IsPrefix}
use Rattle.rh_world.specs.Sides.{Side, new_side}
use Rattle.rh_world.specs.Rows.{ByDebt, ByOwner, ByPlacer, Rows}
use Rattle.rh_world.specs.Acts.{Acts, cells_after}
use Rattle.rh_world.specs.Prefixes.{FailedAt, Prefixes}
use Rattle.rh_world.specs.Claims.{Claims, ends_found, found_end}
use Rattle.rh_world.specs.Rule.{Rule}
use Rattle.rh_world.specs.Ends.{AllAtRest, opening_world, round_side, round_world}
use Rattle.rh_world.specs.Laws.{ActsAreOneOrder, ClaimsShareOut, NewRoundMeets, PrefixesSay, RestIsSettled, StartMeets}
use Rattle.rh_world.proofs.ActsKept.{changed_at, changed_else, entry_or, succeeded_opened}
use Rattle.rh_world.proofs.ClaimsKept.{claims_stay}
use Rattle.rh_world.proofs.OwnList.{own_acts_are}
use Rattle.rh_world.proofs.Updated.{failed_opened, some_not_none}

-- plain cells, and Sides that are new but for their claims
module _ (workers keys counter : ℕ) (opening : ℕ → ℕ) (claims_of : ℕ → List ℕ) where
  abbrev sides : ℕ → Side
  sides v = record new_side { claims = claims_of v }

  opening_rows : Rows (opening_world workers keys counter opening) sides
  opening_rows = record {
    descriptors = record {
      below = λ d h. absurd (h refl);
      rising = λ d e f h a b. absurd (h refl);
      state = λ d h. absurd (h refl);
      current = λ d h. absurd (some_not_none d.number (sym h));
      last = λ d f h. absurd (some_not_none d.number (sym h));
      released = λ d e h r. absurd r;
    };
    owing = record {
      used = λ x h. absurd (omega arith);
      unsettled = λ x h. absurd (some_not_none x.number (sym h));
      newest = λ x h. absurd (some_not_none x.number (sym h));
      marks = λ c x e. cc;
      descs = λ c d e. cc;
    };
    facts = λ v n h. absurd h;
  }

  opening_acts : Acts (opening_world workers keys counter opening) sides
  opening_acts = record {
    made = λ d e. cc;
    succeeded = λ i h. absurd (omega arith);
    ordered = λ i j h k. absurd (omega arith);
    takes = λ i h. absurd (omega arith);
    now = λ c. refl;
    standing = λ c d e s. cc;
    facts = λ v n h. absurd h;
  }

  opening_prefixes : Prefixes (opening_world workers keys counter opening) sides
  opening_prefixes = record {
    acts_before = λ d h. absurd (h refl);
    opens = λ d f h. absurd (h refl);
    failed = λ d e h. absurd (failed_opened (opening_world workers keys counter opening) d e h refl);
    reads = λ v k h. absurd h;
    in_order = λ v. tt;
    at_rest = λ v p k h. absurd h;
    facts = λ v n h. absurd h;
  }

-- plain cells meet the rule, on a counter whose Claims are kept
pub opening_meets : (workers keys counter : ℕ) (opening : ℕ → ℕ) (claims_of : ℕ → List ℕ)
    → Claims (opening_world workers keys counter opening) (sides workers keys counter opening claims_of)
    → Rule (opening_world workers keys counter opening) (sides workers keys counter opening claims_of)
opening_meets workers keys counter opening claims_of claims = record {
  rows = opening_rows workers keys counter opening claims_of;
  acts = opening_acts workers keys counter opening claims_of;
  prefixes = opening_prefixes workers keys counter opening claims_of;
  claims = claims;
}

pub start_meets : StartMeets
start_meets workers keys opening = opening_meets workers keys 0 opening (λ v. []) record {
  all = λ n h. absurd (omega arith);
  below = λ v n h. absurd h;
  one_worker = λ u v n h. absurd h;
  once = λ v. tt;
  ends = omega arith;
}

pub new_round_meets : NewRoundMeets
new_round_meets w side r rest = opening_meets w.workers w.keys w.counter (w.logical w.act_count) (λ v. (side v).claims)
    (claims_stay w (round_world w) side (λ v. round_side (side v)) record { counter = refl; keys = refl; workers = refl } (λ u. refl) r.claims)

-- the cells after n acts are those of the rule
pub cells_are : (w : World) (side : ℕ → Side) → Rule w side → (n : ℕ) → n ≤ w.act_count → (c : ℕ)
    → cells_after w n c ≡ w.logical n c
cells_are w side r zero h c = refl
cells_are w side r (suc n) h c =
    let d : Ref = w.act n in
    let k : n < w.act_count = omega arith in
    let m = r.acts.takes n k in
    let o = succeeded_opened _ (r.acts.succeeded n k) in
    let rising : (i j : ℕ) → i < j → j < w.size d → w.target d i < w.target d j = λ i j a b. r.rows.rising d i j o a b in
    ⊎_elim
    (λ (t : (e : ℕ) × (e < w.size d) × (w.target d e ≡ c)).
    ap (changed_by w d (w.size d) (cells_after w n)) (sym t.2) ∙ (changed_at w d (w.size d) (cells_after w n) t.0 rising t.1 ∙ (sym (m.news t.0 t.1) ∙ ap (w.logical (suc n)) t.2)))
    (λ (out : (e : ℕ) → e < w.size d → w.target d e ≢ c).
    changed_else w d (w.size d) (cells_after w n) c out ∙ (cells_are w side r n (omega arith) c ∙ sym (m.rest c out)))
    (entry_or w d (w.size d) c)

acts_once : (w : World) (side : ℕ → Side) → Acts w side → (i j : ℕ) → i < w.act_count → j < w.act_count
    → w.act i ≡ w.act j → i ≡ j
acts_once w side a i j hi hj e = elim (dec_lt i j) [
  | yes l ↦ (let o = a.ordered i j l hj (ap (λ (x : Ref). x.worker) e) in let s : (w.act i).number ≡ (w.act j).number = ap (λ (x : Ref). x.number) e in absurd (omega arith))
  | no l ↦ elim (dec_lt j i) [
    | yes k ↦ (let o = a.ordered j i k hi (ap (λ (x : Ref). x.worker) (sym e)) in let s : (w.act i).number ≡ (w.act j).number = ap (λ (x : Ref). x.number) e in absurd (omega arith))
    | no k ↦ omega arith
  ]
]

pub one_order : ActsAreOneOrder
one_order w side r = record {
  made = r.acts.made;
  succeeded = r.acts.succeeded;
  once = acts_once w side r.acts;
  ordered = r.acts.ordered;
  meets = λ i h e l. cells_are w side r i (omega arith) (w.target (w.act i) e) ∙ (r.acts.takes i h).olds e l;
  now = λ c. subst (λ (u : ℕ). IsLogical w c u) (sym (cells_are w side r w.act_count (omega arith) c)) (r.acts.now c);
  own = λ v opened falling all. own_acts_are w side v opened r.acts falling all;
}

-- at rest each cell is plain, and is the logical cell
rest_plain : (w : World) (side : ℕ → Side) → Rule w side → AllAtRest side → (c : ℕ)
    → w.cell c ≡ plain (w.logical w.act_count c)
rest_plain w side r rest c = go (w.cell c) refl (r.acts.now c)
  where
    go : (k : Cell) → w.cell c ≡ k → StandsFor w c k (w.logical w.act_count c) → k ≡ plain (w.logical w.act_count c)
    go (plain u) e s = ap plain s
    go (mark x) e s = absurd (some_not_none x.number (sym (r.rows.marks c x e).owed ∙ (rest x.worker).settled))
    go (desc d) e s = ⊎_elim
        (λ (o : ByOwner side d (r.rows.descs c d e).entry). absurd (some_not_none d.number (sym o.current ∙ (rest d.worker).closed)))
        (λ p. ⊎_elim
        (λ (o : ByPlacer w side d (r.rows.descs c d e).entry). absurd (some_not_none o.who.number (sym o.unsettled ∙ (rest o.who.worker).settled)))
        (λ (o : ByDebt side d c). absurd (subst (In (record { desc = d; cell = c })) (rest o.who).paid o.debt)) p) (r.rows.descs c d e).owed

pub rest_is_settled : RestIsSettled
rest_is_settled w side r rest = record {
  cells = λ c. rest_plain w side r rest c ∙ ap plain (sym (cells_are w side r w.act_count (omega arith) c));
  decided = λ d o. ⊎_elim (λ x. x) (λ x. absurd (some_not_none d.number (sym x ∙ (rest d.worker).closed))) (r.rows.state d o);
}

-- the acts before a failed descriptor
abbrev failed_acts_of : (w : World) (side : ℕ → Side) (d : Ref) → Prefixes w side → (k : Control) → w.control d ≡ k → ℕ
failed_acts_of w side d p (failed i by) e = (p.failed d i (by, e)).acts
failed_acts_of w side d p _ e = 0

failed_facts : (w : World) (side : ℕ → Side) (d : Ref) (p : Prefixes w side) (i by : ℕ) (k : Control) (e : w.control d ≡ k)
    → k ≡ failed i by → (t : FailedAt w side d i) × (failed_acts_of w side d p k e ≡ t.acts)
failed_facts w side d p i by (failed j decider) e q =
    let same : j ≡ i = cc in
    subst (λ (x : ℕ). (t : FailedAt w side d x) × ((p.failed d j (decider, e)).acts ≡ t.acts)) same (p.failed d j (decider, e), refl)
failed_facts w side d p i by _ e q = cc

pub prefixes_say : PrefixesSay
prefixes_say w side r =
    let p = r.prefixes in
    let acts_of : Ref → ℕ = λ d. failed_acts_of w side d p (w.control d) refl in
    let fact : (d : Ref) (i : ℕ) → HasFailed w d i → (t : FailedAt w side d i) × (acts_of d ≡ t.acts) = λ d i h. failed_facts w side d p i h.0 (w.control d) refl h.1 in
    record {
      failed_acts = acts_of;
      fails = λ d i h.
          let t = fact d i h in
          subst (λ (n : ℕ). (i < w.size d) × IsPrefix w d.worker d.number n × (cells_after w n (w.target d i) ≢ w.old d i)) (sym t.1)
          (t.0.mismatch.within, t.0.mismatch.prefix, λ q. t.0.mismatch.differs (sym (cells_are w side r t.0.acts t.0.mismatch.prefix.within (w.target d i)) ∙ q));
      reads = λ v k h. let t = p.reads v k h in (t.prefix, cells_are w side r k.acts t.prefix.within k.cell ∙ t.word);
      two_reads = p.in_order;
      two_failed = λ d f e g hd hf same less.
          let t = fact d e hd in
          let u = fact f g hf in
          let a : acts_of d ≡ t.0.acts = t.1 in
          let b : acts_of f ≡ u.0.acts = u.1 in
          let c : t.0.acts ≤ w.acts_before f = t.0.opens f (failed_opened w f g hf) (sym same) less in
          let m : w.acts_before f ≤ u.0.acts = u.0.mismatch.acts_before in
          omega arith;
      failed_then_read = λ d e k hd h less.
          let t = fact d e hd in
          let a : acts_of d ≡ t.0.acts = t.1 in
          let c : t.0.acts ≤ k.acts = t.0.reads k h less in
          omega arith;
      read_then_failed = λ d e k hd h less.
          let t = fact d e hd in
          let a : acts_of d ≡ t.0.acts = t.1 in
          let c : k.acts ≤ w.acts_before d = (p.reads d.worker k h).high d (failed_opened w d e hd) refl less in
          let m : w.acts_before d ≤ t.0.acts = t.0.mismatch.acts_before in
          omega arith;
    }

-- claims
ends_within : (keys : ℕ) (side : ℕ → Side) (n : ℕ) → ends_found keys side n ≤ n
ends_within keys side zero = omega arith
ends_within keys side (suc n) = over (found_end keys (side n).claims) (ends_within keys side n)
  where
    over : (b : Bool) → ends_found keys side n ≤ n
        → cond b (suc (ends_found keys side n)) (ends_found keys side n) ≤ suc n
    over true h = omega arith
    over false h = omega arith

pub claims_share_out : ClaimsShareOut
claims_share_out w side r = record {
  found = λ n h. ((λ t. r.claims.below t.0 n t.2), (λ l. r.claims.all n l));
  below = r.claims.below;
  one_worker = r.claims.one_worker;
  once = r.claims.once;
  counter =
      let a : w.counter ≤ w.keys + ends_found w.keys side w.workers = r.claims.ends in
      let b : ends_found w.keys side w.workers ≤ w.workers = ends_within w.keys side w.workers in
      omega arith;
}
