-- What a worker's step leaves of what was read, and what the Read of a cell adds to it.
use Rattle.std.proofs.Common.{◌≡◌, ℕ, ◌<◌, true, Bool, cond, filter, map, List, ◌∷◌, refl, sym, ap, ◌∙◌, subst, arith}
use Rattle.std.specs.Prelude.{nat_lt}
use Rattle.std.specs.List.{Contains}
use Rattle.std.proofs.lemmas.Bool.Decides.{nat_tests}
use Rattle.rh_tagword.specs.Word.{IsValue, plain_number}
use Rattle.rh_acts.specs.Done.{Kept, kept}
use Rattle.rh_acts.proofs.ActLemmas.{contains_head}
use Rattle.rh_world.specs.Sides.{KeptRead, claim_side}
use Rattle.rh_order.specs.History.{kept_of, value_of}
use Rattle.rh_order.proofs.Learning.{reads_stay}
use Rattle.rh_words.specs.declared.shape.Shape.{Shape}
use Rattle.rh_words.specs.declared.steps.StepKind.{StepKind}
use Rattle.rh_words.specs.Parts.{cell_count}
use Rattle.rh_words.specs.View.{OwnDesc, View}
use Rattle.rh_words.specs.Steps.{Step, with_side}
use Rattle.rh_carrier.specs.Own.{IsClear}
use Rattle.rh_helping.specs.Made.{HasStepped}
use Rattle.rh_helping.specs.Settling.{Grows}
use Rattle.rh_helping.proofs.Growing.{clear_grows}
use Rattle.rh_worker.specs.Worker.{HasSeenCells}
use Rattle.rh_worker.specs.Makes.{MakesStep}
use Rattle.rh_worker.specs.declared.scan_buffer.ScanBuffer.{ScanBuffer}

pub claim_clear : (v next : View) (word : ℕ) → next ≡ with_side v (claim_side v.side word) → IsClear v → IsClear next
claim_clear v next word is = clear_grows v next (subst (Grows v) (sym is)
    record {
      keeps = record { worker = refl; next_number = refl; facts = λ n i. i };
      failures = λ d i. i;
      marks_used = refl;
      opened = refl;
      written = refl;
      current = refl;
      released = refl;
      unsettled = refl;
      debts = refl;
    })

pub stepped_makes : {T : Type 0} {shows : Shape → T → View → Type 0} {does : Shape → Step → T → View → ℕ → T → View → Type 0} (z : Shape) (k : StepKind) (descs : List OwnDesc) (reads : List KeptRead) (t : T) (v : View) (then : T) (next : View)
    → HasStepped shows does z k descs reads t v then next → MakesStep shows does z k t v then next
stepped_makes z k descs reads t v then next m = record {
  step = m.step;
  word = m.word;
  kind = m.kind;
  allowed = m.allowed;
  view_is = m.view_is;
  steps = m.steps;
  trusts = m.trusts;
  claims = m.claims;
  reads = λ r h. subst (λ (n : View). Contains (kept_of z n) r) (sym m.view_is) ((reads_stay z v m.step m.word).1 r h);
}

pub has_seen : {T : Type 0} {shows : Shape → T → View → Type 0} {does : Shape → Step → T → View → ℕ → T → View → Type 0} (z : Shape) (k : StepKind) (t : T) (v : View) (then : T) (next : View) → MakesStep shows does z k t v then next
    → (key : ℕ) (s : ScanBuffer) (n : ℕ) → HasSeenCells z v key s n → HasSeenCells z next key s n
has_seen z k t v then next m key s n h = record { within = h.within; seen = h.seen; were_read = λ p l. m.reads _ (h.were_read p l) }

-- ---- the Read of a cell

pub plain_value : (x : ℕ) → value_of (plain_number x) ≡ x
plain_value x = omega arith

-- what a plain word says is its value
pub value_read : (word value : ℕ) → IsValue value × (word ≡ plain_number value) → value ≡ value_of word
value_read word value said = sym (ap value_of said.1 ∙ plain_value value)

-- a word that is kept as read, before all that were kept
pub read_first : (z : Shape) (v next : View) (c word number value : ℕ) → next.side.reads ≡ record { cell = c; word = word; acts = 0; next_number = number } ∷ v.side.reads
    → c < cell_count z → value ≡ value_of word → kept_of z next ≡ kept c value ∷ kept_of z v
read_first z v next c word number value is inside says =
    let read : KeptRead = record { cell = c; word = word; acts = 0; next_number = number } in
    let of_table : KeptRead → Bool = λ r. nat_lt r.cell (cell_count z) in
    let valued : KeptRead → Kept = λ r. kept r.cell (value_of r.word) in
    let within : nat_lt c (cell_count z) ≡ true = grind (arith, nat_tests) in
    ap (λ (rs : List KeptRead). map valued (filter of_table rs)) is
    ∙ ap (λ (b : Bool). map valued (cond b (read ∷ filter of_table v.side.reads) (filter of_table v.side.reads))) within
    ∙ ap (λ (x : ℕ). kept c x ∷ kept_of z v) (sym says)

pub value_kept : (z : Shape) (v : View) (c value : ℕ) (next : View) → kept_of z next ≡ kept c value ∷ kept_of z v → Contains (kept_of z next) (kept c value)
value_kept z v c value next first = subst (λ (rs : List Kept). Contains rs (kept c value)) (sym first) (contains_head (kept c value) (kept_of z v))
