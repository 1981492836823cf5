-- A wipe keeps the rule, from its beginning to its end.
use Rattle.std.proofs.Common.{◌≡◌, ◌≢◌, ℕ, zero, suc, ◌+◌, ◌*◌, ◌<◌, ◌≤◌, List, [], ◌∷◌, ◌++◌, length, get_or, set, sym, refl, ap, ◌∙◌, subst, ⊎_elim, arith, length-set, get_or-set_same, get_or-set_other, Option, Some, None, replicate, length-append, zero-add}
use Rattle.std.proofs.lemmas.Nat.{mul-add-lt}
use native.Mathlib.Decide.{dec_lt}
use Rattle.rh_tagword.specs.Word.{tag_of}
use Rattle.rh_world.specs.World.{Cell, World}
use Rattle.rh_world.specs.Sides.{AtRest, Side, new_side}
use Rattle.rh_world.specs.Claims.{ends_found}
use Rattle.rh_world.specs.Ends.{AllAtRest, opening_world}
use Rattle.rh_world.proofs.ClaimsKept.{claims_stay}
use Rattle.rh_world.proofs.EndsKept.{opening_meets, rest_is_settled}
use Rattle.rh_world.proofs.Updated.{same_nat}
use Rattle.rh_words.specs.declared.shape.Shape.{Shape}
use Rattle.rh_words.specs.declared.shape.Part.{Part}
use Rattle.rh_words.specs.declared.shape.Part.TheVariants as part
use Rattle.rh_words.specs.Parts.{cell_count, index_of, row_count, word_count}
use Rattle.rh_words.specs.View.{View, Wiping, new_view, round_view}
use Rattle.rh_words.specs.Words.{IsPlain}
use Rattle.rh_words.specs.Steps.{row_of}
use Rattle.rh_words.proofs.IndexLemmas.{entry_inside}
use Rattle.rh_rule.specs.Represents.{IsCell, IsOwn, Kept, cell_number, word_at}
use Rattle.rh_rule.specs.Core.{Core, Ruled}
use Rattle.rh_rule.specs.Rest.{AllRest}
use Rattle.rh_rule.specs.Wipes.{AreWiping, RoundBegins, Rules, ShareOut, TableStarts, WipeBegins, WipeEnds, WipeStores, Wiped, row_total, wiping_view}
use Rattle.rh_rule.proofs.WritesKept.{own_index}

-- ---- a table whose row words are 0

-- a row word lies behind the cells, and before the counter
row_number : (z : Shape) (p : Part) (v : ℕ) → v < z.workers → IsOwn z v p → (i : ℕ) × (i < row_total z) × (index_of z p ≡ cell_count z + i)
row_number z p v lt own =
    let row : row_of z p < row_count z = below p own in
    let h = mul-add-lt v (row_count z) (row_of z p) z.workers lt row in
    (v * row_count z + row_of z p, omega (arith, h), own_index z v p own)
  where
    below : (p : Part) → IsOwn z v p → row_of z p < row_count z
    below (part.Cell c) o = absurd o
    below (part.Control worker) o = absurd o
    below (part.EntryCell worker n) o = entry_inside (cell_count z) n 0 z.workers o.1 (omega arith)
    below (part.EntryOld worker n) o = entry_inside (cell_count z) n 1 z.workers o.1 (omega arith)
    below (part.EntryNew worker n) o = entry_inside (cell_count z) n 2 z.workers o.1 (omega arith)
    below (part.Reason worker owner) o = (let lt : owner < z.workers = o.1 in omega arith)
    below part.Counter o = absurd o
    below _ o = omega arith

control_number : (z : Shape) (worker : ℕ) → worker < z.workers → (i : ℕ) × (i < row_total z) × (index_of z (part.Control worker) ≡ cell_count z + i)
control_number z worker lt =
    let h = mul-add-lt worker (row_count z) 0 z.workers lt (omega arith) in
    (worker * row_count z + 0, omega (arith, h), refl)

-- it meets the rule, with these cells as its opening cells
pub fresh : (z : Shape) (words opening : List ℕ) (keep before : ℕ → View) → length words ≡ word_count z
    → ((c : ℕ) → c < cell_count z → get_or words c 0 ≡ get_or opening c 0)
    → ((c : ℕ) → c < cell_count z → IsPlain (get_or words c 0))
    → ((i : ℕ) → i < row_total z → get_or words (cell_count z + i) 0 ≡ 0)
    → ShareOut z words before → ((v : ℕ) → v < z.workers → (before v).worker ≡ v)
    → ((v : ℕ) → v < z.workers → keep v ≡ round_view opening (before v)) → Ruled z words keep
fresh z words opening keep before sized cells plain_cells zeros s workers is =
    let counter : ℕ = word_at z words part.Counter in
    let w : World = opening_world z.workers z.keys counter (λ c. get_or opening c 0) in
    let side : ℕ → Side = λ v. record new_side { claims = s.claims v } in (
      w,
      record {
        side = side;
        rule = opening_meets z.workers z.keys counter (λ c. get_or opening c 0) s.claims
            (claims_stay (opening_world z.workers z.keys counter (λ c. 0)) w side side record { counter = refl; keys = refl; workers = refl } (λ u. refl) s.share);
        represents = record {
          sized = sized;
          workers = refl;
          keys = refl;
          counter = refl;
          cells = record { cells = cells; standing = λ c h. ap (λ (n : ℕ). tag_of n) (sym (cells c h)) ∙ plain_cells c h };
          controls = record {
            unopened = λ u lt e. let i = control_number z u lt in ap (λ (n : ℕ). get_or words n 0) i.2 ∙ zeros i.0 i.1;
            newest = λ d lt e. absurd (let bad : suc d.number ≡ 0 = e in omega (arith, bad));
            descs = λ d o. absurd (o refl);
            withdrawals = λ d q. cc;
            deciders = λ d e by q. cc;
            reasons = λ d e by q is. cc;
          };
          rows = record {
            entries = λ d o. absurd (o refl);
            descs = λ d o has. absurd (o refl);
            are_marks = λ x u. absurd (omega arith);
            marks = λ x u here. absurd (omega arith);
            placed = λ c x lt q. cc;
          };
          kept = λ v lt. subst (λ (k : View). Kept z words w (side v) v k) (sym (is v lt)) record {
            worker = workers v lt;
            still = refl;
            side_is = ap (λ (l : List ℕ). record new_side { claims = l }) (s.kept v lt);
            opening = λ c h. refl;
            next_number = refl;
            desc_room = omega arith;
            no_control = λ e. refl;
            control = λ n r is i. absurd i;
            open_row = λ n c. cc;
            failures = λ d e f. cc;
            marks_used = refl;
            mark_room = omega arith;
            written = λ p o. let i = row_number z p v lt o in ap (λ (n : ℕ). get_or words n 0) i.2 ∙ zeros i.0 i.1;
            raw_rows = λ r i. absurd i;
            raw = λ r i. absurd i;
            opened = λ o i. absurd i;
            all = λ n o. absurd (o refl);
            falling = tt;
            over = λ o i. absurd i;
          };
          beyond = λ v le. ap (λ (l : List ℕ). record new_side { claims = l }) (s.beyond v le);
        };
      },
    )

-- ---- the steps of a wipe

abbrev cells_of : Option Wiping → List ℕ
cells_of None = []
cells_of (Some w) = w.cells

abbrev cleared_of : Option Wiping → ℕ
cleared_of None = 0
cleared_of (Some w) = w.cleared

pub all_rest : (w : World) (z : Shape) (words : List ℕ) (keep : ℕ → View) (core : Core w z words keep) → AllRest z keep → AllAtRest core.side
all_rest w z words keep core rest v = elim (dec_lt v z.workers) [
  | yes lt ↦ (let k = core.represents.kept v lt in let r = rest.rest v lt in record {
    closed = ap (λ (s : Side). s.current) (sym k.side_is) ∙ r.closed;
    settled = ap (λ (s : Side). s.unsettled) (sym k.side_is) ∙ r.settled;
    paid = ap (λ (s : Side). s.debts) (sym k.side_is) ∙ r.paid;
  })
  | no ge ↦ subst AtRest (sym (core.represents.beyond v (omega arith))) record { closed = refl; settled = refl; paid = refl }
]

module _ (z : Shape) (words cells : List ℕ) (keep : ℕ → View) where
  -- a wipe that is under way is the one that all workers are in the midst of
  only_wiped : (n : ℕ) → AreWiping z keep cells n → Rules z words keep
      → (w : Wiped z words keep) × (w.cells ≡ cells) × (w.cleared ≡ n)
  only_wiped n wiping rules = ⊎_elim
      (λ (c : Ruled z words keep). let bad : Some (record { cells = cells; cleared = n }) ≡ None = sym (wiping 0 z.some_worker) ∙ (c.1.represents.kept 0 z.some_worker).still in cc)
      (λ (w : Wiped z words keep).
      let same : Some (record { cells = w.cells; cleared = w.cleared }) ≡ Some (record { cells = cells; cleared = n }) = sym (w.wiping 0 z.some_worker) ∙ wiping 0 z.some_worker in
      (w, ap cells_of same, ap cleared_of same)) rules

  shared_same : (then : List ℕ) (next : ℕ → View) → word_at z then part.Counter ≡ word_at z words part.Counter
      → ((v : ℕ) → v < z.workers → (next v).side.claims ≡ (keep v).side.claims) → ShareOut z words keep → ShareOut z then next
  shared_same then next counter same s = record {
    claims = s.claims;
    kept = λ v lt. same v lt ∙ s.kept v lt;
    share = claims_stay (opening_world z.workers z.keys (word_at z words part.Counter) (λ c. 0)) (opening_world z.workers z.keys (word_at z then part.Counter) (λ c. 0)) (λ v. record new_side { claims = s.claims v }) (λ v. record new_side { claims = s.claims v })
        record { counter = counter; keys = refl; workers = refl } (λ u. refl) s.share;
    beyond = s.beyond;
  }

  begins : (w : World) → AllRest z keep → Core w z words keep → ((c : ℕ) → c < cell_count z → get_or words c 0 ≡ get_or cells c 0)
      → Wiped z words (λ v. wiping_view cells 0 (keep v))
  begins w rest core same =
      let m = core.represents in
      let settled = rest_is_settled w core.side core.rule (all_rest w z words keep core rest) in
      record {
        cells = cells;
        cleared = 0;
        sized = m.sized;
        worker = λ v lt. (m.kept v lt).worker;
        wiping = λ v lt. refl;
        same = same;
        plain = λ c lt. ap (λ (u : ℕ). tag_of u) (m.cells.cells c lt ∙ ap cell_number (settled.cells c)) ∙ subst (λ (k : Cell). IsCell z k) (settled.cells c) (m.cells.standing c lt);
        zeros = λ i lt. absurd (omega arith);
        shared = record {
          claims = λ v. (core.side v).claims;
          kept = λ v lt. ap (λ (s : Side). s.claims) (m.kept v lt).side_is;
          share = claims_stay w (opening_world z.workers z.keys (word_at z words part.Counter) (λ c. 0)) core.side (λ v. record new_side { claims = (core.side v).claims })
              record { counter = m.counter; keys = sym m.keys; workers = sym m.workers } (λ u. refl) core.rule.claims;
          beyond = λ v le. ap (λ (s : Side). s.claims) (m.beyond v le);
        };
      }

  stores_on : (n : ℕ) → n < row_total z → AreWiping z keep cells n → Rules z words keep
      → Wiped z (set words (cell_count z + n) 0) (λ v. wiping_view cells (n + 1) (keep v))
  stores_on n inside wiping rules =
      let t = only_wiped n wiping rules in
      let w = t.0 in
      let p : ℕ = cell_count z + n in
      let sized : length words ≡ word_count z = w.sized in
      let on : p < length words = omega arith in
      record {
        cells = cells;
        cleared = n + 1;
        sized = length-set words p 0 ∙ w.sized;
        worker = w.worker;
        wiping = λ v lt. refl;
        same = λ c lt. get_or-set_other words p c 0 0 (λ e. omega arith) ∙ w.same c lt ∙ ap (λ (l : List ℕ). get_or l c 0) t.1;
        plain = λ c lt. ap (λ (u : ℕ). tag_of u) (get_or-set_other words p c 0 0 (λ e. omega arith)) ∙ w.plain c lt;
        zeros = λ i lt. ⊎_elim
            (λ (e : i ≡ n). ap (λ (x : ℕ). get_or (set words p 0) (cell_count z + x) 0) e ∙ get_or-set_same words p 0 0 on)
            (λ (ne : i ≢ n). let less : i < n = omega arith in get_or-set_other words p (cell_count z + i) 0 0 (λ e. ne (let q : i ≡ n = omega arith in q)) ∙ w.zeros i (subst (λ (x : ℕ). i < x) (sym t.2) less))
            (same_nat i n);
        shared = shared_same (set words p 0) (λ v. wiping_view cells (n + 1) (keep v)) (get_or-set_other words p (index_of z part.Counter) 0 0 (λ e. omega arith)) (λ v lt. refl) w.shared;
      }

  ends_so : AreWiping z keep cells (row_total z) → Rules z words keep → Ruled z words (λ v. round_view cells (keep v))
  ends_so wiping rules =
      let t = only_wiped (row_total z) wiping rules in
      let w = t.0 in
      fresh z words cells (λ v. round_view cells (keep v)) keep w.sized
      (λ c lt. w.same c lt ∙ ap (λ (l : List ℕ). get_or l c 0) t.1)
      w.plain (λ i lt. w.zeros i (subst (λ (x : ℕ). i < x) (sym t.2) lt)) w.shared w.worker (λ v lt. refl)

  begins_so : AreWiping z keep cells (row_total z) → Rules z words keep → RoundBegins z words (λ v. round_view cells (keep v))
  begins_so wiping rules =
      let t = only_wiped (row_total z) wiping rules in
      let w = t.0 in record {
        sized = w.sized;
        cells = λ v c lt inside. w.same c inside ∙ ap (λ (l : List ℕ). get_or l c 0) t.1;
        rows = λ i lt. w.zeros i (subst (λ (x : ℕ). i < x) (sym t.2) lt);
      }

pub wipe_begins : WipeBegins
wipe_begins w z words cells keep rest core same = begins z words cells keep w rest core same

pub wipe_stores : WipeStores
wipe_stores z words cells keep n inside wiping rules = stores_on z words cells keep n inside wiping rules

pub wipe_ends : WipeEnds
wipe_ends z words cells keep wiping rules = ends_so z words cells keep wiping rules

pub wiped_begins : (z : Shape) (words cells : List ℕ) (keep : ℕ → View) → AreWiping z keep cells (row_total z) → Rules z words keep
    → RoundBegins z words (λ v. round_view cells (keep v))
wiped_begins z words cells keep wiping rules = begins_so z words cells keep wiping rules

-- ---- the start

zeros_at : (n i : ℕ) → get_or (replicate {A = ℕ} n 0) i 0 ≡ 0
zeros_at zero i = refl
zeros_at (suc n) zero = refl
zeros_at (suc n) (suc i) = zeros_at n i

zeros_long : (n : ℕ) → length (replicate {A = ℕ} n 0) ≡ n
zeros_long zero = refl
zeros_long (suc n) = ap suc (zeros_long n)

front_at : (xs ys : List ℕ) (i : ℕ) → i < length xs → get_or (xs ++ ys) i 0 ≡ get_or xs i 0
front_at [] ys i h = absurd (omega arith)
front_at (x ∷ xs) ys zero h = refl
front_at (x ∷ xs) ys (suc i) h = front_at xs ys i (omega arith)

back_at : (xs ys : List ℕ) (i : ℕ) → get_or (xs ++ ys) (length xs + i) 0 ≡ get_or ys i 0
back_at [] ys i = ap (λ (u : ℕ). get_or ys u 0) (zero-add i)
back_at (x ∷ xs) ys i = ap (λ (u : ℕ). get_or ((x ∷ xs) ++ ys) u 0) (let z : length (x ∷ xs) + i ≡ suc (length xs + i) = omega arith in z) ∙ back_at xs ys i

module _ (z : Shape) (cells : List ℕ) (long : length cells ≡ cell_count z) where
  abbrev first_words : List ℕ
  first_words = cells ++ replicate {A = ℕ} (row_total z + 1) 0

  behind : (i : ℕ) → get_or first_words (cell_count z + i) 0 ≡ 0
  behind i = ap (λ (u : ℕ). get_or first_words (u + i) 0) (sym long) ∙ back_at cells (replicate {A = ℕ} (row_total z + 1) 0) i ∙ zeros_at (row_total z + 1) i

  front : (c : ℕ) → c < cell_count z → get_or first_words c 0 ≡ get_or cells c 0
  front c lt = front_at cells (replicate {A = ℕ} (row_total z + 1) 0) c (let l : length cells ≡ cell_count z = long in omega arith)

  pub start_begins : RoundBegins z first_words (new_view cells)
  start_begins = record {
    sized = let a = length-append cells (replicate {A = ℕ} (row_total z + 1) 0) in let b = zeros_long (row_total z + 1) in let l : length cells ≡ cell_count z = long in omega arith;
    cells = λ v c lt inside. front c inside;
    rows = λ i lt. behind i;
  }

pub table_starts : TableStarts
table_starts z cells long plain =
    let begins = start_begins z cells long in
    let counter : word_at z (first_words z cells long) part.Counter ≡ 0 = behind z cells long (row_total z) in
    fresh z (first_words z cells long) cells (new_view cells) (new_view cells) begins.sized (front z cells long) (λ c lt. ap (λ (u : ℕ). tag_of u) (front z cells long c lt) ∙ plain c lt) begins.rows
    record {
      claims = λ v. [];
      kept = λ v lt. refl;
      share = record {
        all = λ i lt. (let no : i < 0 = subst (λ (u : ℕ). i < u) counter lt in absurd (omega arith));
        below = λ v i h. absurd h;
        one_worker = λ u v i h. absurd h;
        once = λ v. tt;
        ends = subst (λ (u : ℕ). u ≤ z.keys + ends_found z.keys (λ v. record new_side { claims = [] }) z.workers) (sym counter) (omega arith);
      };
      beyond = λ v le. refl;
    }
    (λ v lt. refl) (λ v lt. refl)
